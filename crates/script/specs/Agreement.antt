-- Printing and parsing agree: the line of a call says that call.
use Rattle.std.specs.Prelude.{◌≡◌, ◌^◌, ◌<◌, Ok, Some}
use Rattle.script.specs.Forms.{said}
use Rattle.script.specs.Printing.{line_of}
use Rattle.script.specs.declared.call.Call.TheVariants.{Open, Put, Look, Remove, Next, List as Listing, Clear, Count, Free}
use Rattle.script.specs.declared.call.Call.{Call}

-- the numbers of a call fit their types, as they do of every call that a program makes
abbrev pub Fitting : Call → Type 0
Fitting (Open n) = n < 2 ^ 32
Fitting (Put s k r) = s < 2 ^ 8
Fitting (Look s k) = s < 2 ^ 8
Fitting (Remove s k) = s < 2 ^ 8
Fitting (Next s b) = s < 2 ^ 8
Fitting (Listing s) = s < 2 ^ 8
Fitting (Clear s) = s < 2 ^ 8
Fitting (Count s) = s < 2 ^ 8
Fitting Free = Unit {0}

-- the line that is printed of a call says that call
abbrev pub Agrees : Type 0
Agrees = (c : Call) → Fitting c → said (line_of c) ≡ Ok (Some c)
