-- The grammar: what a text is. A type a level, after the syntax of the Self Handbook in this subset.
-- A list is built from its left, with what parts its members behind each: what has been read of it is itself a part.
-- Each leaf holds its place, and a name by its number.
use Rattle.std.specs.Prelude.{ℕ, ℤ, Bool, Option}
use Rattle.self_grammar.specs.declared.signs.Spot.{Spot}
use Rattle.self_grammar.specs.declared.signs.Reserved.{Reserved}
use Rattle.self_grammar.specs.declared.signs.Role.{Role}

-- a name that stands somewhere
pub record Word : Type 0 where
  pub name : ℕ
  pub spot : Spot

-- a name of a slot or of what fills one, with the number of the name of its assignment slot
pub record Label : Type 0 where
  pub name : ℕ
  pub setter : ℕ
  pub spot : Spot

-- any name, reserved or not
pub record AnyName : Type 0 where
  pub label : Label
  pub reserved : Reserved

-- any operator
pub record AnyOperator : Type 0 where
  pub word : Word
  pub role : Role

-- the bytes of a string's text
pub record Literal : Type 0 where
  pub start : ℕ
  pub end : ℕ
  pub spot : Spot

-- path = name { name }
pub data Path : Type 0 where
  named : AnyName → Path
  under : Path → AnyName → Path

-- integer | string | path
pub data Simple : Type 0 where
  integer : ℤ → Spot → Simple
  string : Literal → Simple
  path : Path → Simple

-- a slot of a block: argument | name | name "<-" simple | name "=" simple
pub data Local : Type 0 where
  local_argument : Label → Local
  local_bare : Label → Local
  local_assignable : Label → Word → Simple → Local
  local_constant : Label → Word → Simple → Local

-- { local "." }
pub data LocalsBefore : Type 0 where
  no_locals : LocalsBefore
  more_locals : LocalsBefore → Local → Spot → LocalsBefore

-- [ local { "." local } [ "." ] ]
pub data Locals : Type 0 where
  locals_ended : LocalsBefore → Locals
  locals_last : LocalsBefore → Local → Locals

-- the first word of a keyword message: a keyword, or a primitive one with the name that it has without 'IfFail:'
pub data Opening : Type 0 where
  ordinary : Word → Opening
  primitive_keyword : Word → Option ℕ → Opening

-- a further part of a keyword message, and whether it is 'IfFail:'
pub record Part : Type 0 where
  pub word : Word
  pub handles : Bool

-- a name and a period: 'resend', or the name of a parent slot
pub data Delegate : Type 0 where
  to_all : Word → Delegate
  to_parent : Word → Delegate

mutual
  -- primary { name | primitive name }
  pub data Unary : Type 0 where
    int : ℤ → Spot → Unary
    str : Literal → Unary
    itself : Label → Unary
    block : Spot → Bars → Body → Spot → Unary
    group : Spot → Expression → Spot → Unary
    name : Label → Unary
    resend_name : Label → Unary
    primitive : Word → Unary
    restart : Spot → Unary
    resent : Delegate → AnyName → Unary
    sent : Unary → AnyName → Unary
    sent_primitive : Unary → Word → Unary

  -- the slots of a block, where it has bars
  pub data Bars : Type 0 where
    absent : Bars
    present : Spot → Locals → Spot → Bars

  -- [ code ]
  pub data Body : Type 0 where
    empty : Body
    full : Code → Body

  -- { operand operator }, all operators the same one; the first operand may be a delegate
  pub data Operands : Type 0 where
    first : Unary → Spot → Operands
    delegated : Delegate → Spot → Operands
    next : Operands → Unary → Spot → Operands

  -- one unary, or operands and a last one
  pub data Binary : Type 0 where
    single : Unary → Binary
    several : ℕ → Role → Operands → Unary → Binary

  -- what a keyword message is sent to: nothing that is written, or a binary
  pub data Receiver : Type 0 where
    implied : Receiver
    given : Binary → Receiver

  -- A keyword message up to its last argument. Every argument before a further part is a binary, since a capital keyword
  -- belongs to the innermost message that is open. A delegate has no primitive.
  pub data Message : Type 0 where
    opened : Receiver → Opening → Message
    redirected : Delegate → Word → Message
    further : Message → Binary → Part → Message

  pub data Expression : Type 0 where
    plain : Binary → Expression
    keyed : Message → Expression → Expression

  -- { expression "." }
  pub data Statements : Type 0 where
    none : Statements
    more : Statements → Expression → Spot → Statements

  -- { expression "." } [ "^" ] expression [ "." ]
  pub data Code : Type 0 where
    code : Statements → Option Spot → Expression → Option Spot → Code

-- the name of a keyword slot: keyword { capital }
pub data KeywordName : Type 0 where
  keyword_first : Word → KeywordName
  keyword_next : KeywordName → Part → KeywordName

-- keyword name { capital name }
pub data KeywordHead : Type 0 where
  head_first : Word → Label → KeywordHead
  head_next : KeywordHead → Part → Label → KeywordHead

-- what stands before the '=' of a method slot
pub data Head : Type 0 where
  unary_head : Label → Head
  operator_with : AnyOperator → Label → Head
  operator : AnyOperator → Head
  keyword_with : KeywordHead → Head
  keyword : KeywordName → Head

mutual
  -- integer | string | path | object
  pub data Datum : Type 0 where
    simple : Simple → Datum
    object : Object → Datum

  -- "(" ")" | "(" "|" slots "|" ")"
  pub data Object : Type 0 where
    empty_object : Spot → Spot → Object
    slotted_object : Spot → Spot → Slots → Spot → Spot → Object

  -- "(" code ")" | "(" "|" slots "|" code ")"
  pub data Method : Type 0 where
    bare_method : Spot → Code → Spot → Method
    slotted_method : Spot → Spot → Slots → Spot → Code → Spot → Method

  -- a slot with a method
  pub data MethodSlot : Type 0 where
    method : Head → Word → Method → MethodSlot

  -- a slot that a world or an object may have
  pub data Member : Type 0 where
    constant : Label → Word → Datum → Member
    assignable : Label → Word → Datum → Member
    bare : Label → Member
    parent : Label → Word → Word → Datum → Member
    coded : MethodSlot → Member

  -- a slot between bars behind "(", where it isn't yet known what begins there
  pub data Slot : Type 0 where
    member : Member → Slot
    argument : Label → Slot

  -- { slot "." }
  pub data SlotsBefore : Type 0 where
    no_slots : SlotsBefore
    more_slots : SlotsBefore → Slot → Spot → SlotsBefore

  -- [ slot { "." slot } [ "." ] ]
  pub data Slots : Type 0 where
    slots_ended : SlotsBefore → Slots
    slots_last : SlotsBefore → Slot → Slots

-- { slot "." } of a world
pub data MembersBefore : Type 0 where
  no_members : MembersBefore
  more_members : MembersBefore → Member → Spot → MembersBefore

-- the slots of a world, and the end of its text
pub data World : Type 0 where
  world_ended : MembersBefore → Spot → World
  world_last : MembersBefore → Member → Spot → World

-- the text of an edit: a method slot, a period behind it or not, and the end
pub data Edit : Type 0 where
  edit : MethodSlot → Option Spot → Spot → Edit
