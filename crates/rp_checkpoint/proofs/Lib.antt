mod NodeObjects
mod NodeTexts
mod Opening
mod ReadLists
mod ReadBack
