-- Tests by computation: of a state with which a session may begin, and of a command that keeps it well formed.
use Rattle.std.specs.Prelude.{ℕ, zero, suc, ◌+◌, ◌&&◌, ◌||◌, ◌==◌, nat_lt, nat_le, Bool, true, false, not, is_some, List, [], ◌∷◌, ◌++◌, length, Option, Some, None, codes}
use Rattle.self_terms.specs.declared.nodes.Node.{Node}
use Rattle.self_terms.specs.declared.nodes.Node.TheVariants as nodes
use Rattle.self_terms.specs.declared.values.Value.{Value}
use Rattle.self_terms.specs.declared.values.Value.TheVariants as values
use Rattle.self_terms.specs.declared.values.Datum.{Datum}
use Rattle.self_terms.specs.declared.values.Datum.TheVariants as datum
use Rattle.self_terms.specs.declared.bodies.Body.{Body}
use Rattle.self_terms.specs.declared.bodies.Local.{Local}
use Rattle.self_terms.specs.Names.{text_of}
use Rattle.self_terms.specs.Depths.{taken, depth, is_inner}
use Rattle.source_model.specs.Names.{is_text, number_of, text_named}
use Rattle.source_model.specs.Objects.{Object, Slot, Content, Constant, Assignable, Assignment, Parent, Method, Thing, Plain, Vector, Text, is_assignable, slot_named}
use Rattle.source_model.specs.State.{State, Activity}
use Rattle.source_model.specs.Step.{node_at}
use Rattle.source_model.specs.Soundness.{body_in, room, around}
use Rattle.source_model.specs.Edits.{Initial, String, LocalText, BodyText, SlotText}
use Rattle.source_model.specs.Script.{Command, Spawn, Edit, Read}
use Rattle.source_model.specs.Formed.{arity}
use Rattle.source_model.specs.Told.{told}

-- every element, and every number below one, passes
abbrev pub each_passes : {A : Type 0} → (A → Bool) → List A → Bool
each_passes p [] = true
each_passes p (x ∷ xs) = p x && each_passes p xs

abbrev pub below_pass : ℕ → (ℕ → Bool) → Bool
below_pass zero p = true
below_pass (suc n) p = p n && below_pass n p

-- Names.

abbrev pub takes_in : Option (List ℕ) → ℕ → Bool
takes_in None args = false
takes_in (Some text) args = arity text == args

abbrev pub takes_test : List (List ℕ) → ℕ → ℕ → Bool
takes_test names n args = takes_in (text_of names n) args

-- Bodies.

abbrev pub body_test : List Body → ℕ → Bool
body_test bodies n = nat_lt 0 n && nat_le n (length bodies)

abbrev pub outer_test : List Body → Option ℕ → Bool
outer_test bodies None = true
outer_test bodies (Some k) = body_test bodies k

abbrev pub local_test : List Body → ℕ → Option ℕ → Bool
local_test bodies slot None = false
local_test bodies slot (Some n) = nat_lt slot (room (body_in bodies n))

abbrev pub is_number : ℕ → Option ℕ → Bool
is_number n None = false
is_number n (Some k) = k == n

abbrev pub names_test : List Body → ℕ → Node → Bool
names_test bodies n (nodes.Read up slot) = local_test bodies slot (around bodies up (Some n))
names_test bodies n (nodes.Store up slot) = local_test bodies slot (around bodies up (Some n))
names_test bodies n (nodes.BlockLit b) = body_test bodies b.0 && is_number n (body_in bodies b.0).outer
names_test bodies n _ = true

abbrev pub node_test : List Body → ℕ → ℕ → Bool
node_test bodies n k =
    nat_le (taken (node_at (body_in bodies n) k)) (depth (body_in bodies n).nodes k)
    && ((not (is_inner (node_at (body_in bodies n) k)) || nat_lt (k + 1) (length (body_in bodies n).nodes)) && names_test bodies n (node_at (body_in bodies n) k))

abbrev pub fit_test : List Body → ℕ → Bool
fit_test bodies n = outer_test bodies (body_in bodies n).outer && (nat_lt 0 (length (body_in bodies n).nodes) && below_pass (length (body_in bodies n).nodes) (node_test bodies n))

abbrev pub says_test : List (List ℕ) → ℕ → Node → Bool
says_test names things (nodes.Str o) = nat_lt o things
says_test names things (nodes.Send sel) = takes_test names sel.name.0 sel.args
says_test names things (nodes.SelfSend sel) = takes_test names sel.name.0 sel.args
says_test names things (nodes.Resend sel) = takes_test names sel.name.0 sel.args
says_test names things (nodes.Directed parent sel) = is_some (text_of names parent.0) && takes_test names sel.name.0 sel.args
says_test names things (nodes.Prim name args implied handler) = is_some (text_of names name.0)
says_test names things _ = true

abbrev pub given_test : ℕ → Datum → Bool
given_test things (datum.Integer i) = true
given_test things (datum.Object o) = nat_lt o things
given_test things datum.Nil = true

abbrev pub said_test : List (List ℕ) → ℕ → Body → Bool
said_test names things b =
    each_passes (says_test names things) b.nodes && (length b.places == length b.nodes && each_passes (λ (x : Local). given_test things x.initial) b.locals)

-- Things.

abbrev pub plain_test : ℕ → Value → Bool
plain_test things (values.Int i) = true
plain_test things (values.Object o) = nat_lt o things
plain_test things (values.Block b maker) = false

abbrev pub content_test : List (List ℕ) → List Body → ℕ → ℕ → Content → Bool
content_test names bodies things n (Constant v) = plain_test things v
content_test names bodies things n (Assignable v) = plain_test things v
content_test names bodies things n Assignment = takes_test names n 1
content_test names bodies things n (Parent o) = nat_lt o things
content_test names bodies things n (Method b) = body_test bodies b.0 && (takes_test names n (length (body_in bodies b.0).arguments) && not (is_some (body_in bodies b.0).outer))

abbrev pub assigns : Content → Bool
assigns Assignment = true
assigns _ = false

abbrev pub follows_test : List (List ℕ) → Option Slot → Slot → Bool
follows_test names None x = not (assigns x.content)
follows_test names (Some front) x =
    not (assigns x.content) || (is_assignable front.content && is_text (text_named names x.name) (text_named names front.name ++ codes ":"))

abbrev pub slots_test : List (List ℕ) → List Body → ℕ → Option Slot → Object → Bool
slots_test names bodies things front [] = true
slots_test names bodies things front (x ∷ more) =
    content_test names bodies things x.name x.content
    && (follows_test names front x && (not (is_some (slot_named x.name more)) && slots_test names bodies things (Some x) more))

abbrev pub thing_test : List (List ℕ) → List Body → ℕ → Thing → Bool
thing_test names bodies things (Plain slots) = slots_test names bodies things None slots
thing_test names bodies things (Vector items) = each_passes (plain_test things) items
thing_test names bodies things (Text bytes) = true

-- States.

abbrev pub core_test : State → Bool
core_test s =
    nat_lt s.core.nil (length s.things)
    && (nat_lt s.core.yes (length s.things)
    && (nat_lt s.core.no (length s.things)
    && (nat_lt s.core.integers (length s.things)
    && (nat_lt s.core.strings (length s.things)
    && (nat_lt s.core.vectors (length s.things)
    && (nat_lt s.core.blocks (length s.things)
    && (nat_le (s.fixed + 26) (length s.things) && takes_test s.names (number_of s.names (codes "value:With:")) 2)))))))

abbrev pub none_yet : List Activity → Bool
none_yet [] = true
none_yet (x ∷ xs) = false

unfoldable pub can_begin : State → Bool
can_begin s =
    none_yet s.activities
    && (core_test s
    && (below_pass (length s.bodies) (λ k. fit_test s.bodies (k + 1))
    && (each_passes (said_test s.names (length s.things)) s.bodies && each_passes (thing_test s.names s.bodies (length s.things)) s.things)))

-- Commands.

abbrev pub initial_test : ℕ → Initial → Bool
initial_test strings (String k) = nat_lt k strings
initial_test strings _ = true

abbrev pub text_test : List (List ℕ) → SlotText → Bool
text_test names t =
    below_pass (length (told t)) (λ k. fit_test (told t) (k + 1))
    && (each_passes (said_test names (length t.strings)) (told t)
    && (each_passes (λ (b : BodyText). each_passes (λ (x : LocalText). initial_test (length t.strings) x.initial) b.locals) t.bodies
    && content_test names (told t) 0 t.name (Method (record { 0 = 1 }))))

unfoldable pub command_fits : List (List ℕ) → Command → Bool
command_fits names (Spawn name) = arity name == 0
command_fits names (Edit path (Read t)) = text_test names t
command_fits names _ = true
