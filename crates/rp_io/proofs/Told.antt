-- What the next line has told of its device, by whether it had a LF.
use Rattle.std.proofs.Common.{◌≡◌, Bool, true, false, Ok}
use Rattle.rp_io.specs.Telling.{EndIsTold}

pub told_more : (b old new : Bool) → b ≡ true → EndIsTold (Ok b) old new → new ≡ old
told_more true old new is told = told
told_more false old new is told = cc

pub told_last : (b old new : Bool) → b ≡ false → EndIsTold (Ok b) old new → new ≡ true
told_last true old new is told = cc
told_last false old new is told = told
