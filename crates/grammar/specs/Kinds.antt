-- The words and the numbers of the small kinds.
use Rattle.std.specs.Prelude.{ℕ, List, [], ◌∷◌, codes}
use Rattle.token.specs.Token.{Bytes}
use Rattle.grammar.specs.declared.kinds.Rule.{Rule}
use Rattle.grammar.specs.declared.kinds.Scalar.{Scalar}

-- label = "required" | "optional" | "repeated"
abbrev pub rule_word : Rule → Bytes
rule_word Rule.Optional = codes "optional"
rule_word Rule.Repeated = codes "repeated"
rule_word Rule.Required = codes "required"

-- type = "double" | "float" | "int32" | "int64" | "uint32" | "uint64" | "sint32" | "sint64" | "fixed32" | "fixed64" | "sfixed32"
--      | "sfixed64" | "bool" | "string" | "bytes" | messageType | enumType
abbrev pub scalar_word : Scalar → Bytes
scalar_word Scalar.Int32 = codes "int32"
scalar_word Scalar.Int64 = codes "int64"
scalar_word Scalar.Uint32 = codes "uint32"
scalar_word Scalar.Uint64 = codes "uint64"
scalar_word Scalar.Sint32 = codes "sint32"
scalar_word Scalar.Sint64 = codes "sint64"
scalar_word Scalar.Bool = codes "bool"
scalar_word Scalar.Fixed64 = codes "fixed64"
scalar_word Scalar.Sfixed64 = codes "sfixed64"
scalar_word Scalar.Double = codes "double"
scalar_word Scalar.String = codes "string"
scalar_word Scalar.Bytes = codes "bytes"
scalar_word Scalar.Fixed32 = codes "fixed32"
scalar_word Scalar.Sfixed32 = codes "sfixed32"
scalar_word Scalar.Float = codes "float"

-- the order in which the reader tries them
abbrev pub scalars : List Scalar
scalars =
    Scalar.Int32 ∷ Scalar.Int64 ∷ Scalar.Uint32 ∷ Scalar.Uint64 ∷ Scalar.Sint32 ∷ Scalar.Sint64 ∷ Scalar.Fixed32 ∷ Scalar.Sfixed32 ∷
    Scalar.Fixed64 ∷ Scalar.Sfixed64 ∷ Scalar.Bool ∷ Scalar.String ∷ Scalar.Bytes ∷ Scalar.Float ∷ Scalar.Double ∷ []

-- the number of a field type: 1 to 15 here, 16 a named type, 17 a map, 18 a group
abbrev pub scalar_code : Scalar → ℕ
scalar_code Scalar.Int32 = 1
scalar_code Scalar.Int64 = 2
scalar_code Scalar.Uint32 = 3
scalar_code Scalar.Uint64 = 4
scalar_code Scalar.Sint32 = 5
scalar_code Scalar.Sint64 = 6
scalar_code Scalar.Bool = 7
scalar_code Scalar.Fixed64 = 8
scalar_code Scalar.Sfixed64 = 9
scalar_code Scalar.Double = 10
scalar_code Scalar.String = 11
scalar_code Scalar.Bytes = 12
scalar_code Scalar.Fixed32 = 13
scalar_code Scalar.Sfixed32 = 14
scalar_code Scalar.Float = 15
