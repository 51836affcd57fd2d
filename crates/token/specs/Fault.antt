-- The faults of a source: the number, the name and the text of each.
use Rattle.std.specs.Prelude.{ℕ, List, ◌++◌, codes, decimal}
use Rattle.token.specs.declared.answer.Fault.{Fault}
use Rattle.token.specs.declared.answer.Fault.TheVariants.{BadByte, BadNumber, UnclosedString, UnclosedComment, TokenTooLong, CutTape, BadWord, InputTooLong}

abbrev pub fault_number : Fault → ℕ
fault_number BadByte = 1
fault_number BadNumber = 2
fault_number UnclosedString = 3
fault_number UnclosedComment = 4
fault_number TokenTooLong = 5
fault_number CutTape = 6
fault_number BadWord = 7
fault_number InputTooLong = 8

abbrev pub fault_name : Fault → List ℕ
fault_name BadByte = codes "BadByte"
fault_name BadNumber = codes "BadNumber"
fault_name UnclosedString = codes "UnclosedString"
fault_name UnclosedComment = codes "UnclosedComment"
fault_name TokenTooLong = codes "TokenTooLong"
fault_name CutTape = codes "CutTape"
fault_name BadWord = codes "BadWord"
fault_name InputTooLong = codes "InputTooLong"

-- `number name`
abbrev pub fault_text : Fault → List ℕ
fault_text f = decimal (fault_number f) ++ codes " " ++ fault_name f
