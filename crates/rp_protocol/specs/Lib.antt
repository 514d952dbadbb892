-- What contracts of public calls cite: the limit of a line, what lines ask, reply and acknowledge, how they are written, the objects of
-- output rows, the texts of refusals, the ranges of a reply's numbers, and the law of replies.
pub mod Lines
pub mod Requests
pub mod Replies
pub mod Saved
pub mod ReplyLaw
pub mod PacketLines
pub mod ReplyLines
pub mod ObjectTexts
pub mod ObjectsRead
pub mod Refusals
pub mod Within
-- The inside: the tokens of a line, texts of refusals, and compact lines.
pub mod PacketTokens
pub mod Tokens
pub mod RefusalTexts
pub mod Compact
