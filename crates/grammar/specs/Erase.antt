-- Equal apart from places means equal once every line and column is 0.
use Rattle.std.specs.Prelude.{map}
use Rattle.token.specs.Token.{nowhere}
use Rattle.grammar.specs.Model.{FieldType, scalar, named, map_of, group, Field, Fields, no_fields, next_field, OneOf, Member, Extension, Enumeration, Contents, Messages, no_messages, next_message, Service, FileDescriptor}

unfoldable mutual
  pub type_erased : FieldType → FieldType
  type_erased (scalar s) = scalar s
  type_erased (named n) = named n
  type_erased (map_of k v) = map_of (type_erased k) (type_erased v)
  type_erased (group n fs) = group n (fields_erased fs)

  pub field_erased : Field → Field
  field_erased (Field.field r t n k os p) = Field.field r (type_erased t) n k os nowhere

  pub fields_erased : Fields → Fields
  fields_erased no_fields = no_fields
  fields_erased (next_field f fs) = next_field (field_erased f) (fields_erased fs)

abbrev pub oneof_erased : OneOf → OneOf
oneof_erased o = record { name = o.name; options = o.options; fields = map field_erased o.fields; place = nowhere }

abbrev pub member_erased : Member → Member
member_erased (Member.field f) = Member.field (field_erased f)
member_erased (Member.oneof o) = Member.oneof (oneof_erased o)

abbrev pub extension_erased : Extension → Extension
extension_erased e = record { extendee = e.extendee; extends = field_erased e.extends }

abbrev pub enum_erased : Enumeration → Enumeration
enum_erased e = record { name = e.name; options = e.options; numbers = e.numbers; names = e.names; values = e.values; place = nowhere }

abbrev pub service_erased : Service → Service
service_erased s = record { name = s.name; options = s.options; methods = s.methods; place = nowhere }

abbrev pub contents_erased : Contents → Contents
contents_erased c = record {
  options = c.options;
  numbers = c.numbers;
  names = c.names;
  extensible = c.extensible;
  members = map member_erased c.members;
  enums = map enum_erased c.enums;
  extensions = map extension_erased c.extensions;
}

unfoldable pub messages_erased : Messages → Messages
messages_erased no_messages = no_messages
messages_erased (next_message n c p inner rest) = next_message n (contents_erased c) nowhere (messages_erased inner) (messages_erased rest)

unfoldable pub erased : FileDescriptor → FileDescriptor
erased m = record {
  syntax = m.syntax;
  imports = m.imports;
  package_path = m.package_path;
  options = m.options;
  messages = messages_erased m.messages;
  enums = map enum_erased m.enums;
  extensions = map extension_erased m.extensions;
  services = map service_erased m.services;
}

-- ---- all of this file, for a proof that computes
unfoldable pub opened : Unit {0}
unfolding type_erased field_erased fields_erased messages_erased erased
opened = tt
