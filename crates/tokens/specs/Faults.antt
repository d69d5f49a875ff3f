-- What a person reads of a fault.
use Rattle.std.specs.Prelude.{ℕ, List, ◌++◌, codes, decimal}
use Rattle.tokens.specs.declared.fault.Fault.{Fault}
use Rattle.tokens.specs.declared.fault.Fault.TheVariants.{Memory, Shape, Key, Digit, Half, Number, Long, Text}

-- the text of a fault, with its column in decimal
abbrev pub shown_fault : Fault → List ℕ
shown_fault Memory = codes "no memory"
shown_fault Shape = codes "no such request"
shown_fault Key = codes "another key is expected"
shown_fault (Digit at) = codes "no digit at column " ++ decimal at
shown_fault Half = codes "half a byte at the end"
shown_fault Number = codes "no number in range"
shown_fault Long = codes "the line is too long"
shown_fault (Text at) = codes "no text from column " ++ decimal at ++ codes " on"
