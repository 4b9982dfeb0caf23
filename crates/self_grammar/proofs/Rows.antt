-- Worked texts: what the definitions say of them, by computing. The places were counted by hand.
use Rattle.std.specs.Prelude.{◌≡◌, ℕ, ◌+◌, pos, true, false, Option, None, Some, List, [], ◌∷◌, ◌++◌, refl}
use Rattle.self_grammar.specs.declared.signs.Spot.{Spot}
use Rattle.self_grammar.specs.declared.signs.Reserved.TheVariants.{Free}
use Rattle.self_grammar.specs.declared.signs.Role.TheVariants.{Other}
use Rattle.self_grammar.specs.declared.signs.ReadKind.{ReadKind}
use Rattle.self_grammar.specs.declared.signs.ReadKind.TheVariants as kind
use Rattle.self_grammar.specs.declared.signs.ReadRefusal.{ReadRefusal}
use Rattle.self_grammar.specs.declared.pieces.Words.TheVariants.{One, Two}
use Rattle.self_grammar.specs.declared.pieces.Target.TheVariants.{Given, Implied, Parents, Parent}
use Rattle.self_grammar.specs.declared.pieces.TextNode.{TextNode}
use Rattle.self_grammar.specs.declared.pieces.TextNode.TheVariants as nodes
use Rattle.self_grammar.specs.declared.pieces.SlotForm.TheVariants as form
use Rattle.self_grammar.specs.declared.pieces.Item.{Item}
use Rattle.self_grammar.specs.declared.pieces.Item.TheVariants as items
use Rattle.self_grammar.specs.Counts.{Limits, Mark, node}
use Rattle.self_grammar.specs.Grammar as g
use Rattle.self_grammar.specs.Spelling.{world, edit, items_of}

limits : Limits
limits = record { nesting = 64; pending = 64; arguments = 5; locals = 64; body = 1024; size = 65536 }

s : ℕ → Spot
s c = record { line = 1; column = c }

w : ℕ → ℕ → g.Word
w name c = record { name = name; spot = s c }

l : ℕ → ℕ → g.Label
l name c = record { name = name; setter = name + 100; spot = s c }

q : ℕ → ℕ → g.Part
q name c = record { word = w name c; handles = false }

five : ℕ → ℕ → g.Binary
five z c = g.single (g.int (pos z) (s c))

first_fault : List Mark → Option ReadRefusal
first_fault [] = None
first_fault (m ∷ ms) = or_else m.fault (first_fault ms)
  where
    or_else : Option ReadRefusal → Option ReadRefusal → Option ReadRefusal
    or_else None other = other
    or_else (Some r) other = Some r

at : ReadKind → ℕ → Option ReadRefusal
at k c = Some (record { kind = k; spot = s c })

-- fee = ( 3 )
sound : first_fault (edit limits (g.edit (g.method (g.unary_head (l 9 1)) (w 50 5) (g.bare_method (s 7) (g.code g.none None (g.plain (five 3 9)) None) (s 11))) None (s 12))) ≡ None
unfolding limits s w l q five first_fault at
sound = refl

-- fee = ( | a. b. a | 3 )
duplicate : first_fault (edit limits (g.edit (g.method (g.unary_head (l 9 1)) (w 50 5)
    (g.slotted_method (s 7) (s 9)
    (g.slots_last (g.more_slots (g.more_slots g.no_slots (g.member (g.bare (l 1 11))) (s 12)) (g.member (g.bare (l 2 14))) (s 15)) (g.member (g.bare (l 1 17))))
    (s 19) (g.code g.none None (g.plain (five 3 21)) None) (s 23))) None (s 24))) ≡ at kind.DuplicateSlot 17
unfolding limits s w l q five first_fault at
duplicate = refl

-- fee: n = ( | :m | n )
misfit : first_fault (edit limits (g.edit (g.method (g.keyword_with (g.head_first (w 8 1) (l 2 6))) (w 50 8)
    (g.slotted_method (s 10) (s 12) (g.slots_last g.no_slots (g.argument (l 3 14))) (s 17) (g.code g.none None (g.plain (g.single (g.name (l 2 19)))) None) (s 21))) None (s 22)))
    ≡ at kind.BadSyntax 1
unfolding limits s w l q five first_fault at
misfit = refl

six : g.Message
six = g.further (g.further (g.further (g.further (g.further (g.opened (g.given (g.single (g.itself (l 4 9)))) (g.ordinary (w 8 14))) (five 3 19) (q 11 21)) (five 4 25) (q 12 27)) (five 5 33) (q 13 35)) (five 6 40) (q 14 42)) (five 7 46) (q 15 48)

-- fee = ( self fee: 3 Of: 4 With: 5 And: 6 On: 7 Plus: 8 )
parts : first_fault (edit limits (g.edit (g.method (g.unary_head (l 9 1)) (w 50 5)
    (g.bare_method (s 7) (g.code g.none None (g.keyed six (g.plain (five 8 54))) None) (s 56))) None (s 57))) ≡ at kind.TooManyArgs 48
unfolding limits s w l q five first_fault at six
parts = refl

-- What texts say.
made : TextNode → ℕ → Item
made n c = items.Node (node (s c) n)

named : ℕ → ℕ → g.Binary
named name c = g.single (g.name (l name c))

stated : g.Expression → g.Code
stated e = g.code g.none None e None

-- main = ( 3 _IntAdd: 4 )
adding : g.MethodSlot
adding = g.method (g.unary_head (l 9 1)) (w 50 6)
    (g.bare_method (s 8) (stated (g.keyed (g.opened (g.given (five 3 10)) (g.primitive_keyword (w 20 12) None)) (g.plain (five 4 21)))) (s 23))

said_of_adding : List Item
said_of_adding = items.Opened (s 8) ∷ made (nodes.Integer (pos 3)) 10 ∷ made (nodes.Integer (pos 4)) 21 ∷ made (nodes.Primitive (One 20) 1 false false) 12
    ∷ made nodes.End 23 ∷ items.ClosedBody ∷ items.Slot (One 9) form.Method (s 1) ∷ []

-- as an edit,
adding_edit : items_of (edit limits (g.edit adding None (s 24))) ≡ said_of_adding
unfolding limits s w l q five made stated adding said_of_adding
adding_edit = refl

-- and as a world, behind which a period stands
adding_world : items_of (world limits (g.world_ended (g.more_members g.no_members (g.coded adding) (s 24)) (s 25))) ≡ said_of_adding
unfolding limits s w l q five made stated adding said_of_adding
adding_world = refl

-- the items of `f = ( .. )`, whose last parenthesis stands there,
code_says : g.Code → ℕ → List Item
code_says c close = items_of (edit limits (g.edit (g.method (g.unary_head (l 9 1)) (w 50 3) (g.bare_method (s 5) c (s close))) None (s (close + 1))))

-- and those that it has around the nodes of its body
method_f : List Item → List Item
method_f is = items.Opened (s 5) ∷ is ++ items.ClosedBody ∷ items.Slot (One 9) form.Method (s 1) ∷ []

-- f = ( 7 _IntAdd: a IfFail: b )
handled : code_says (stated (g.keyed (g.further (g.opened (g.given (five 7 7)) (g.primitive_keyword (w 20 9) None)) (named 1 18) (record { word = w 21 20; handles = true })) (g.plain (named 2 28)))) 30
    ≡ method_f (made (nodes.Integer (pos 7)) 7 ∷ made (nodes.Message Implied (One 1) 0) 18 ∷ made (nodes.Message Implied (One 2) 0) 28 ∷ made (nodes.Primitive (One 20) 1 false true) 9 ∷ made nodes.End 30 ∷ [])
unfolding limits s w l q five made named stated code_says method_f
handled = refl

-- f = ( _QuitIfFail: b ), where 23 is the number of '_Quit'
handled_first : code_says (stated (g.keyed (g.opened g.implied (g.primitive_keyword (w 22 7) (Some 23))) (g.plain (named 2 20)))) 22
    ≡ method_f (made (nodes.Message Implied (One 2) 0) 20 ∷ made (nodes.Primitive (One 23) 0 true true) 7 ∷ made nodes.End 22 ∷ [])
unfolding limits s w l q five made named stated code_says method_f
handled_first = refl

-- f = ( [ | :x. y <- 2 | x ] )
block : code_says (stated (g.plain (g.single (g.block (s 7)
    (g.present (s 9) (g.locals_last (g.more_locals g.no_locals (g.local_argument (l 1 11)) (s 13)) (g.local_assignable (l 2 15) (w 51 17) (g.integer (pos 2) (s 20)))) (s 22))
    (g.full (stated (g.plain (named 1 24)))) (s 26))))) 28
    ≡ method_f (made nodes.Block 7 ∷ items.Opened (s 7) ∷ items.Argument 1 ∷ items.Integer (pos 2) ∷ items.Slot (One 2) (form.Assignable 102) (s 15)
    ∷ made (nodes.Message Implied (One 1) 0) 24 ∷ made nodes.End 26 ∷ items.ClosedBody ∷ made nodes.End 28 ∷ [])
unfolding limits s w l q five made named stated code_says method_f
block = refl

-- f = ( [] )
empty_block : code_says (stated (g.plain (g.single (g.block (s 7) g.absent g.empty (s 8))))) 10
    ≡ method_f (made nodes.Block 7 ∷ items.Opened (s 7) ∷ made nodes.Nil 8 ∷ made nodes.End 8 ∷ items.ClosedBody ∷ made nodes.End 10 ∷ [])
unfolding limits s w l q five made stated code_says method_f
empty_block = refl

-- f = ( resend.x )
resent : code_says (stated (g.plain (g.single (g.resent (g.to_all (w 40 7)) (record { label = l 1 14; reserved = Free }))))) 16
    ≡ method_f (made (nodes.Message Parents (One 1) 0) 7 ∷ made nodes.End 16 ∷ [])
unfolding limits s w l q five made stated code_says method_f
resent = refl

-- f = ( ^ p.at: 1 )
returned : code_says (g.code g.none (Some (s 7)) (g.keyed (g.redirected (g.to_parent (w 41 9)) (w 8 11)) (g.plain (five 1 15))) None) 17
    ≡ method_f (made (nodes.Integer (pos 1)) 15 ∷ made (nodes.Message (Parent 41) (One 8) 1) 9 ∷ made nodes.Return 7 ∷ [])
unfolding limits s w l q five made stated code_says method_f
returned = refl

-- f = ( 1 + 2 + 3. 4 )
chain : code_says (g.code (g.more g.none (g.plain (g.several 30 Other (g.next (g.first (g.int (pos 1) (s 7)) (s 9)) (g.int (pos 2) (s 11)) (s 13)) (g.int (pos 3) (s 15)))) (s 16)) None (g.plain (five 4 18)) None) 20
    ≡ method_f (made (nodes.Integer (pos 1)) 7 ∷ made (nodes.Integer (pos 2)) 11 ∷ made (nodes.Message Given (One 30) 1) 9 ∷ made (nodes.Integer (pos 3)) 15 ∷ made (nodes.Message Given (One 30) 1) 13
    ∷ made nodes.Drop 16 ∷ made (nodes.Integer (pos 4)) 18 ∷ made nodes.End 20 ∷ [])
unfolding limits s w l q five made stated code_says method_f
chain = refl

-- at: i Put: v = ( self x: i Y: v )
arguments : items_of (edit limits (g.edit (g.method (g.keyword_with (g.head_next (g.head_first (w 6 1) (l 1 5)) (q 7 7) (l 2 12))) (w 50 14)
    (g.bare_method (s 16) (stated (g.keyed (g.further (g.opened (g.given (g.single (g.itself (l 4 18)))) (g.ordinary (w 8 23))) (named 1 26) (q 10 28)) (g.plain (named 2 31)))) (s 33))) None (s 34)))
    ≡ items.Named 1 ∷ items.Named 2 ∷ items.Opened (s 16) ∷ made nodes.Itself 18 ∷ made (nodes.Message Implied (One 1) 0) 26 ∷ made (nodes.Message Implied (One 2) 0) 31
    ∷ made (nodes.Message Given (Two 8 10) 2) 23 ∷ made nodes.End 33 ∷ items.ClosedBody ∷ items.Slot (Two 6 7) form.Method (s 1) ∷ []
unfolding limits s w l q five made named stated
arguments = refl

-- a = ( | p* = b c. x | )
object : items_of (world limits (g.world_last g.no_members (g.constant (l 1 1) (w 50 3) (g.object (g.slotted_object (s 5) (s 7)
    (g.slots_last (g.more_slots g.no_slots (g.member (g.parent (l 2 9) (w 52 10) (w 50 12)
    (g.simple (g.path (g.under (g.named (record { label = l 3 14; reserved = Free })) (record { label = l 4 16; reserved = Free })))))) (s 17)) (g.member (g.bare (l 5 19)))) (s 21) (s 23)))) (s 24)))
    ≡ items.Opened (s 5) ∷ items.Root 3 (s 14) ∷ items.Further 4 (s 16) ∷ items.Slot (One 2) form.Parent (s 9) ∷ items.Slot (One 5) (form.Bare 105) (s 19) ∷ items.ClosedObject
    ∷ items.Slot (One 1) form.Constant (s 1) ∷ []
unfolding limits s w l q five
object = refl

-- Texts beyond small limits.
small : Limits
small = record { nesting = 2; pending = 2; arguments = 5; locals = 1; body = 3; size = 100 }

unary_slot : g.Method → Spot → List Mark
unary_slot m p = edit small (g.edit (g.method (g.unary_head (l 9 1)) (w 50 3) m) None p)

-- f = ( ( ( 3 ) ) ) where two may be open
nested : first_fault (unary_slot (g.bare_method (s 5) (stated (g.plain (g.single (g.group (s 7) (g.plain (g.single (g.group (s 9) (g.plain (five 3 11)) (s 13)))) (s 15))))) (s 17)) (s 18))
    ≡ at kind.TooDeep 9
unfolding limits s w l q five first_fault at small unary_slot stated
nested = refl

-- f = ( a + (b + c) ) where two values may be pending
pending : first_fault (unary_slot (g.bare_method (s 5) (stated (g.plain (g.several 30 Other (g.first (g.name (l 1 7)) (s 9))
    (g.group (s 11) (g.plain (g.several 30 Other (g.first (g.name (l 2 12)) (s 14)) (g.name (l 3 16)))) (s 17))))) (s 19)) (s 20))
    ≡ at kind.TooDeep 16
unfolding limits s w l q five first_fault at small unary_slot stated
pending = refl

-- f = ( 3 + 4. 5 ) where a body may have three nodes: the fourth is that of the period
many : first_fault (unary_slot (g.bare_method (s 5) (g.code (g.more g.none (g.plain (g.several 30 Other (g.first (g.int (pos 3) (s 7)) (s 9)) (g.int (pos 4) (s 11)))) (s 12)) None (g.plain (five 5 14)) None) (s 16)) (s 17))
    ≡ at kind.TooManyNodes 12
unfolding limits s w l q five first_fault at small unary_slot stated
many = refl

-- f = ( | a. b | 3 ) where a body may have one local
locals : first_fault (unary_slot (g.slotted_method (s 5) (s 7) (g.slots_last (g.more_slots g.no_slots (g.member (g.bare (l 1 9))) (s 10)) (g.member (g.bare (l 2 12)))) (s 14) (stated (g.plain (five 3 16))) (s 18)) (s 19))
    ≡ at kind.TooManyLocals 12
unfolding limits s w l q five first_fault at small unary_slot stated
locals = refl

-- f = ( | x: = ( n ). x | 3 ) : the slot x has the name x: too
setter : first_fault (unary_slot (g.slotted_method (s 5) (s 7) (g.slots_last (g.more_slots g.no_slots
    (g.member (g.coded (g.method (g.keyword_with (g.head_first (w 101 9) (l 5 12))) (w 50 14) (g.bare_method (s 16) (stated (g.plain (g.single (g.name (l 5 18))))) (s 20))))) (s 21))
    (g.member (g.bare (l 1 23)))) (s 25) (stated (g.plain (five 3 27))) (s 29)) (s 30))
    ≡ at kind.DuplicateSlot 23
unfolding limits s w l q five first_fault at small unary_slot stated
setter = refl
