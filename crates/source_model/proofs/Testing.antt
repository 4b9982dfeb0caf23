-- A state that passes the test may begin, and a command that passes it fits.
use Rattle.std.proofs.Common.{◌≡◌, ℕ, zero, suc, ◌+◌, ◌-◌, ◌<◌, ap, sym, subst, refl, ◌∙◌, arith, Bool, true, false, List, [], ◌∷◌, ◌++◌, inl, inr, length}
use Rattle.std.specs.Prelude.{◌==◌, ◌&&◌, ◌||◌, nat_lt, nat_le, not, is_some, Option, Some, None, cond, codes}
use Rattle.std.proofs.lemmas.Bool.{eqb-true, ltb-true, leb-true, cases_eq, eq-eqb}
use Rattle.self_terms.specs.declared.nodes.Node.{Node}
use Rattle.self_terms.specs.declared.nodes.Node.TheVariants as nodes
use Rattle.self_terms.specs.declared.values.Value.{Value}
use Rattle.self_terms.specs.declared.values.Value.TheVariants as values
use Rattle.self_terms.specs.declared.values.Datum.{Datum}
use Rattle.self_terms.specs.declared.values.Datum.TheVariants as datum
use Rattle.self_terms.specs.declared.bodies.Body.{Body}
use Rattle.self_terms.specs.declared.bodies.Local.{Local}
use Rattle.self_terms.specs.Names.{text_of}
use Rattle.self_terms.specs.Depths.{taken, depth, is_inner}
use Rattle.source_model.specs.Names.{is_text, number_of, text_named}
use Rattle.source_model.specs.Objects.{Object, Slot, Content, Constant, Assignable, Assignment, Parent, Method, Thing, Plain, Vector, Text, is_assignable, slot_named, has_name}
use Rattle.source_model.specs.State.{State, Activity}
use Rattle.source_model.specs.Step.{node_at}
use Rattle.source_model.specs.Canon.{Each}
use Rattle.source_model.specs.Soundness.{body_in, room, around, HasBody, HasOuter, HasLocal, Names, IsFit}
use Rattle.source_model.specs.Formed.{arity, Takes, HasText, Says, IsGiven, IsSaid, ContentHolds, SlotHolds, ThingHolds, ContentFits, SlotFits, Follows, AreTied, ThingFits, IsPlain, HasCore, CanBegin}
use Rattle.source_model.specs.Testing.{each_passes, below_pass, takes_in, takes_test, body_test, outer_test, local_test, is_number, names_test, node_test, fit_test, says_test, given_test, said_test, plain_test, content_test, assigns, follows_test, slots_test, thing_test, core_test, none_yet, can_begin, initial_test, text_test, command_fits}
use Rattle.source_model.specs.Edits.{Initial, Number, String, Path, Nothing, LocalText, BodyText, SlotText}
use Rattle.source_model.specs.Script.{Command, Spawn, Switch, Run, Continue, Step, Interrupt, Finish, Stack, Edit, Units, Machine, Advisor, Read, Unread}
use Rattle.source_model.specs.Told.{told, InitialFits, IsSlotText, CommandFits}
use Rattle.source_model.proofs.Naming.{same_text}
use Rattle.source_model.proofs.Once.{AreApart, from_apart}

-- Tests.

fst : (a b : Bool) → (a && b) ≡ true → a ≡ true
fst true b e = refl
fst false b e = e

snd : (a b : Bool) → (a && b) ≡ true → b ≡ true
snd true b e = e
snd false b e = absurd (cc)

no : (A : Type 0) → false ≡ true → A
no A e = absurd (cc)

not_false : (b : Bool) → not b ≡ true → b ≡ false
not_false true e = no (true ≡ false) e
not_false false e = refl

either_or : (a b : Bool) → (not a || b) ≡ true → a ≡ true → b ≡ true
either_or true b e d = e
either_or false b e d = no (b ≡ true) d

module _ {A : Type 0} (P : A → Type 0) (p : A → Bool) (h : (x : A) → p x ≡ true → P x) where
  all_pass : (xs : List A) → each_passes p xs ≡ true → Each P xs
  all_pass [] e = tt
  all_pass (x ∷ xs) e = (h x (fst (p x) (each_passes p xs) e), all_pass xs (snd (p x) (each_passes p xs) e))

below_all : (n : ℕ) (p : ℕ → Bool) → below_pass n p ≡ true → (k : ℕ) → k < n → p k ≡ true
below_all zero p e k lt = absurd (omega (arith, lt))
below_all (suc n) p e k lt = elim (cases_eq k n) [
  | inl same ↦ subst (λ (m : ℕ). p m ≡ true) (sym same) (fst (p n) (below_pass n p) e)
  | inr other ↦ below_all n p (snd (p n) (below_pass n p) e) k (omega (arith, lt, other))
]

takes_by : (names : List (List ℕ)) (n args : ℕ) (m : Option (List ℕ)) → text_of names n ≡ m → takes_in m args ≡ true → Takes names n args
takes_by names n args None same e = no (Takes names n args) e
takes_by names n args (Some text) same e = record { text = text; given = same; arguments = eqb-true (arity text) args e }

takes_of : (names : List (List ℕ)) (n args : ℕ) → takes_test names n args ≡ true → Takes names n args
takes_of names n args e = takes_by names n args (text_of names n) refl e

text_by : (names : List (List ℕ)) (n : ℕ) (m : Option (List ℕ)) → text_of names n ≡ m → is_some m ≡ true → HasText names n
text_by names n None same e = no (HasText names n) e
text_by names n (Some text) same e = (text, same)

module _ (bodies : List Body) where
  body_of' : (n : ℕ) → body_test bodies n ≡ true → HasBody bodies n
  body_of' n e = (ltb-true 0 n (fst (nat_lt 0 n) (nat_le n (length bodies)) e), leb-true n (length bodies) (snd (nat_lt 0 n) (nat_le n (length bodies)) e))

  outer_of : (m : Option ℕ) → outer_test bodies m ≡ true → HasOuter bodies m
  outer_of None e = tt
  outer_of (Some k) e = body_of' k e

  local_of : (slot : ℕ) (m : Option ℕ) → local_test bodies slot m ≡ true → HasLocal bodies slot m
  local_of slot None e = no ⊥ e
  local_of slot (Some n) e = ltb-true slot (room (body_in bodies n)) e

  number_is : (n : ℕ) (m : Option ℕ) → is_number n m ≡ true → m ≡ Some n
  number_is n None e = no (◌≡◌ {A = Option ℕ} None (Some n)) e
  number_is n (Some k) e = ap Some (eqb-true k n e)

  names_of : (n : ℕ) (node : Node) → names_test bodies n node ≡ true → Names bodies n node
  names_of n (nodes.Int i) e = tt
  names_of n (nodes.Str o) e = tt
  names_of n (nodes.BlockLit b) e =
      (body_of' b.0 (fst (body_test bodies b.0) (is_number n (body_in bodies b.0).outer) e), number_is n (body_in bodies b.0).outer (snd (body_test bodies b.0) (is_number n (body_in bodies b.0).outer) e))
  names_of n nodes.SelfRef e = tt
  names_of n nodes.Nil e = tt
  names_of n (nodes.Read up slot) e = local_of slot (around bodies up (Some n)) e
  names_of n (nodes.Store up slot) e = local_of slot (around bodies up (Some n)) e
  names_of n (nodes.Send sel) e = tt
  names_of n (nodes.SelfSend sel) e = tt
  names_of n (nodes.Resend sel) e = tt
  names_of n (nodes.Directed parent sel) e = tt
  names_of n (nodes.Prim name args implied handler) e = tt
  names_of n nodes.Drop e = tt
  names_of n nodes.Restart e = tt
  names_of n nodes.Return e = tt
  names_of n nodes.NonLocal e = tt
  names_of n nodes.End e = tt

  module _ (n : ℕ) (e : fit_test bodies n ≡ true) where
    abbrev b : Body
    b = body_in bodies n

    abbrev last : ℕ → Bool
    last k = not (is_inner (node_at b k)) || nat_lt (k + 1) (length b.nodes)

    rest : (nat_lt 0 (length b.nodes) && below_pass (length b.nodes) (node_test bodies n)) ≡ true
    rest = snd (outer_test bodies b.outer) (nat_lt 0 (length b.nodes) && below_pass (length b.nodes) (node_test bodies n)) e

    at : (k : ℕ) → k < length b.nodes → node_test bodies n k ≡ true
    at k lt = below_all (length b.nodes) (node_test bodies n) (snd (nat_lt 0 (length b.nodes)) (below_pass (length b.nodes) (node_test bodies n)) rest) k lt

    behind : (k : ℕ) → k < length b.nodes → (last k && names_test bodies n (node_at b k)) ≡ true
    behind k lt = snd (nat_le (taken (node_at b k)) (depth b.nodes k)) (last k && names_test bodies n (node_at b k)) (at k lt)

    fit_of : IsFit bodies n
    fit_of = record {
      inside = outer_of b.outer (fst (outer_test bodies b.outer) (nat_lt 0 (length b.nodes) && below_pass (length b.nodes) (node_test bodies n)) e);
      some = ltb-true 0 (length b.nodes) (fst (nat_lt 0 (length b.nodes)) (below_pass (length b.nodes) (node_test bodies n)) rest);
      there = λ k lt. leb-true (taken (node_at b k)) (depth b.nodes k) (fst (nat_le (taken (node_at b k)) (depth b.nodes k)) (last k && names_test bodies n (node_at b k)) (at k lt));
      ends = λ k lt inner. ltb-true (k + 1) (length b.nodes) (either_or (is_inner (node_at b k)) (nat_lt (k + 1) (length b.nodes)) (fst (last k) (names_test bodies n (node_at b k)) (behind k lt)) inner);
      names = λ k lt. names_of n (node_at b k) (snd (last k) (names_test bodies n (node_at b k)) (behind k lt));
    }

  all_fit : below_pass (length bodies) (λ k. fit_test bodies (k + 1)) ≡ true → (n : ℕ) → HasBody bodies n → IsFit bodies n
  all_fit e n has =
      let same : n - 1 + 1 ≡ n = omega (arith, has.0) in
      subst (IsFit bodies) same (fit_of (n - 1 + 1) (below_all (length bodies) (λ k. fit_test bodies (k + 1)) e (n - 1) (omega (arith, has.0, has.1))))

module _ (names : List (List ℕ)) (things : ℕ) where
  says_of : (node : Node) → says_test names things node ≡ true → Says names things node
  says_of (nodes.Int i) e = tt
  says_of (nodes.Str o) e = ltb-true o things e
  says_of (nodes.BlockLit b) e = tt
  says_of nodes.SelfRef e = tt
  says_of nodes.Nil e = tt
  says_of (nodes.Read up slot) e = tt
  says_of (nodes.Store up slot) e = tt
  says_of (nodes.Send sel) e = takes_of names sel.name.0 sel.args e
  says_of (nodes.SelfSend sel) e = takes_of names sel.name.0 sel.args e
  says_of (nodes.Resend sel) e = takes_of names sel.name.0 sel.args e
  says_of (nodes.Directed parent sel) e = (
    text_by names parent.0 (text_of names parent.0) refl (fst (is_some (text_of names parent.0)) (takes_test names sel.name.0 sel.args) e),
    takes_of names sel.name.0 sel.args (snd (is_some (text_of names parent.0)) (takes_test names sel.name.0 sel.args) e),
  )
  says_of (nodes.Prim name args implied handler) e = text_by names name.0 (text_of names name.0) refl e
  says_of nodes.Drop e = tt
  says_of nodes.Restart e = tt
  says_of nodes.Return e = tt
  says_of nodes.NonLocal e = tt
  says_of nodes.End e = tt

  given_of : (d : Datum) → given_test things d ≡ true → IsGiven things d
  given_of (datum.Integer i) e = tt
  given_of (datum.Object o) e = ltb-true o things e
  given_of datum.Nil e = tt

  said_of : (b : Body) → said_test names things b ≡ true → IsSaid names things b
  said_of b e =
      let placed : Bool = length b.places == length b.nodes in
      let locals : Bool = each_passes (λ (x : Local). given_test things x.initial) b.locals in
      let more = snd (each_passes (says_test names things) b.nodes) (placed && locals) e in
      record {
        said = all_pass (Says names things) (says_test names things) says_of b.nodes (fst (each_passes (says_test names things) b.nodes) (placed && locals) e);
        placed = eqb-true (length b.places) (length b.nodes) (fst placed locals more);
        initials = all_pass (λ (x : Local). IsGiven things x.initial) (λ (x : Local). given_test things x.initial) (λ x. given_of x.initial) b.locals (snd placed locals more);
      }

  plain_of : (v : Value) → plain_test things v ≡ true → IsPlain things v
  plain_of (values.Int i) e = tt
  plain_of (values.Object o) e = ltb-true o things e
  plain_of (values.Block b k) e = no ⊥ e

  module _ (bodies : List Body) where
    none_of : (m : Option ℕ) → not (is_some m) ≡ true → m ≡ None
    none_of None e = refl
    none_of (Some k) e = no (◌≡◌ {A = Option ℕ} (Some k) None) e

    content_of : (n : ℕ) (c : Content) → content_test names bodies things n c ≡ true → ContentHolds (IsPlain things) c × ContentFits names bodies n c
    content_of n (Constant v) e = (plain_of v e, tt)
    content_of n (Assignable v) e = (plain_of v e, tt)
    content_of n Assignment e = (tt, takes_of names n 1 e)
    content_of n (Parent o) e = (ltb-true o things e, tt)
    content_of n (Method b) e =
        let takes : Bool = takes_test names n (length (body_in bodies b.0).arguments) in
        let alone : Bool = not (is_some (body_in bodies b.0).outer) in
        let more = snd (body_test bodies b.0) (takes && alone) e in (
          tt,
          (
            body_of' bodies b.0 (fst (body_test bodies b.0) (takes && alone) e),
            takes_of names n (length (body_in bodies b.0).arguments) (fst takes alone more),
            none_of (body_in bodies b.0).outer (snd takes alone more),
          ),
        )

    assigning : (c : Content) → c ≡ Assignment → assigns c ≡ true
    assigning c e = ap assigns e

    follows_of : (front : Option Slot) (x : Slot) → follows_test names front x ≡ true → Follows names front x
    follows_of None x e = λ d. let bad : true ≡ false = sym (assigning x.content d) ∙ not_false (assigns x.content) e in absurd (cc)
    follows_of (Some f) x e = λ d.
        let able : Bool = is_assignable f.content in
        let text : Bool = is_text (text_named names x.name) (text_named names f.name ++ codes ":") in
        let both = either_or (assigns x.content) (able && text) e (assigning x.content d) in (
          fst able text both,
          same_text (text_named names x.name) (text_named names f.name ++ codes ":") (snd able text both),
        )

    some_is : (m : Option Slot) (b : Bool) (x : Slot) → is_some (cond b (Some x) m) ≡ false → (b ≡ false) × (is_some m ≡ false)
    some_is m true x e = let bad : false ≡ true = sym e in (no (true ≡ false) bad, no (is_some m ≡ false) bad)
    some_is m false x e = (refl, e)

    others_of : (n : ℕ) (slots : Object) → is_some (slot_named n slots) ≡ false → Each (λ (y : Slot). y.name ≡ n → ⊥) slots
    others_of n [] e = tt
    others_of n (x ∷ xs) e =
        let h = some_is (slot_named n xs) (has_name n x) x e in
        ((λ d. let bad : true ≡ false = sym (eq-eqb x.name n d) ∙ h.0 in absurd (cc)), others_of n xs h.1)

    record Sound (front : Option Slot) (slots : Object) : Type 0 where
      plain : Each (SlotHolds (IsPlain things)) slots
      fits : Each (SlotFits names bodies) slots
      tied : AreTied names front slots
      apart : AreApart slots

    slots_of : (front : Option Slot) (slots : Object) → slots_test names bodies things front slots ≡ true → Sound front slots
    slots_of front [] e = record { plain = tt; fits = tt; tied = tt; apart = tt }
    slots_of front (x ∷ more) e =
        let content : Bool = content_test names bodies things x.name x.content in
        let follows : Bool = follows_test names front x in
        let alone : Bool = not (is_some (slot_named x.name more)) in
        let others : Bool = slots_test names bodies things (Some x) more in
        let e1 = snd content (follows && (alone && others)) e in
        let e2 = snd follows (alone && others) e1 in
        let c = content_of x.name x.content (fst content (follows && (alone && others)) e) in
        let r = slots_of (Some x) more (snd alone others e2) in
        record {
          plain = (c.0, r.plain);
          fits = (c.1, r.fits);
          tied = (follows_of front x (fst follows (alone && others) e1), r.tied);
          apart = (others_of x.name more (not_false (is_some (slot_named x.name more)) (fst alone others e2)), r.apart);
        }

    thing_of : (x : Thing) → thing_test names bodies things x ≡ true → ThingHolds (IsPlain things) x × ThingFits names bodies x
    thing_of (Plain slots) e = let h = slots_of None slots e in (h.plain, (h.fits, h.tied, from_apart slots h.apart))
    thing_of (Vector items) e = (all_pass (IsPlain things) (plain_test things) plain_of items e, tt)
    thing_of (Text bytes) e = (tt, tt)

module _ (s : State) where
  abbrev count : ℕ
  count = length s.things

  core_of : core_test s ≡ true → HasCore s
  core_of e =
      let t8 : Bool = nat_le (s.fixed + 26) count && takes_test s.names (number_of s.names (codes "value:With:")) 2 in
      let t7 : Bool = nat_lt s.core.blocks count && t8 in
      let t6 : Bool = nat_lt s.core.vectors count && t7 in
      let t5 : Bool = nat_lt s.core.strings count && t6 in
      let t4 : Bool = nat_lt s.core.integers count && t5 in
      let t3 : Bool = nat_lt s.core.no count && t4 in
      let t2 : Bool = nat_lt s.core.yes count && t3 in
      let e2 = snd (nat_lt s.core.nil count) t2 e in
      let e3 = snd (nat_lt s.core.yes count) t3 e2 in
      let e4 = snd (nat_lt s.core.no count) t4 e3 in
      let e5 = snd (nat_lt s.core.integers count) t5 e4 in
      let e6 = snd (nat_lt s.core.strings count) t6 e5 in
      let e7 = snd (nat_lt s.core.vectors count) t7 e6 in
      let e8 = snd (nat_lt s.core.blocks count) t8 e7 in
      record {
        nil = ltb-true s.core.nil count (fst (nat_lt s.core.nil count) t2 e);
        yes = ltb-true s.core.yes count (fst (nat_lt s.core.yes count) t3 e2);
        no = ltb-true s.core.no count (fst (nat_lt s.core.no count) t4 e3);
        integers = ltb-true s.core.integers count (fst (nat_lt s.core.integers count) t5 e4);
        strings = ltb-true s.core.strings count (fst (nat_lt s.core.strings count) t6 e5);
        vectors = ltb-true s.core.vectors count (fst (nat_lt s.core.vectors count) t7 e6);
        blocks = ltb-true s.core.blocks count (fst (nat_lt s.core.blocks count) t8 e7);
        fixed = leb-true (s.fixed + 26) count (fst (nat_le (s.fixed + 26) count) (takes_test s.names (number_of s.names (codes "value:With:")) 2) e8);
        failure = takes_of s.names (number_of s.names (codes "value:With:")) 2 (snd (nat_le (s.fixed + 26) count) (takes_test s.names (number_of s.names (codes "value:With:")) 2) e8);
      }

  none_of' : (all : List Activity) → none_yet all ≡ true → all ≡ []
  none_of' [] e = refl
  none_of' (x ∷ xs) e = no (◌≡◌ {A = List Activity} (x ∷ xs) []) e

  pub begins_by_test : can_begin s ≡ true → CanBegin s
  unfolding can_begin
  begins_by_test e =
      let things : Bool = each_passes (thing_test s.names s.bodies count) s.things in
      let said : Bool = each_passes (said_test s.names count) s.bodies in
      let fit : Bool = below_pass (length s.bodies) (λ k. fit_test s.bodies (k + 1)) in
      let e1 = snd (none_yet s.activities) (core_test s && (fit && (said && things))) e in
      let e2 = snd (core_test s) (fit && (said && things)) e1 in
      let e3 = snd fit (said && things) e2 in
      record {
        none = none_of' s.activities (fst (none_yet s.activities) (core_test s && (fit && (said && things))) e);
        bodies = all_fit s.bodies (fst fit (said && things) e2);
        values = all_pass (ThingHolds (IsPlain count)) (thing_test s.names s.bodies count) (λ x d. (thing_of s.names count s.bodies x d).0) s.things (snd said things e3);
        world = (
          core_of (fst (core_test s) (fit && (said && things)) e1),
          record {
            code = all_pass (IsSaid s.names count) (said_test s.names count) (said_of s.names count) s.bodies (fst said things e3);
            slots = all_pass (ThingFits s.names s.bodies) (thing_test s.names s.bodies count) (λ x d. (thing_of s.names count s.bodies x d).1) s.things (snd said things e3);
          },
        );
      }

module _ (names : List (List ℕ)) where
  some_string : (k j : ℕ) → String k ≡ String j → k ≡ j
  some_string k j e = cc

  initial_of : (strings : ℕ) (x : Initial) → initial_test strings x ≡ true → (k : ℕ) → x ≡ String k → k < strings
  initial_of strings (Number i) e k d = absurd (cc)
  initial_of strings (String j) e k d = let lt = ltb-true j strings e in let same = some_string j k d in omega (arith, lt, same)
  initial_of strings (Path path) e k d = absurd (cc)
  initial_of strings Nothing e k d = absurd (cc)

  text_of' : (t : SlotText) → text_test names t ≡ true → IsSlotText names t
  text_of' t e =
      let strings : ℕ = length t.strings in
      let fit : Bool = below_pass (length (told t)) (λ k. fit_test (told t) (k + 1)) in
      let said : Bool = each_passes (said_test names strings) (told t) in
      let firsts : Bool = each_passes (λ (b : BodyText). each_passes (λ (x : LocalText). initial_test strings x.initial) b.locals) t.bodies in
      let method : Bool = content_test names (told t) 0 t.name (Method (record { 0 = 1 })) in
      let e1 = snd fit (said && (firsts && method)) e in
      let e2 = snd said (firsts && method) e1 in
      record {
        bodies = all_fit (told t) (fst fit (said && (firsts && method)) e);
        said = all_pass (IsSaid names strings) (said_test names strings) (said_of names strings) (told t) (fst said (firsts && method) e1);
        initials = all_pass (λ (b : BodyText). Each (InitialFits strings) b.locals) (λ (b : BodyText). each_passes (λ (x : LocalText). initial_test strings x.initial) b.locals)
            (λ b d. all_pass (InitialFits strings) (λ (x : LocalText). initial_test strings x.initial) (λ x f. initial_of strings x.initial f) b.locals d) t.bodies (fst firsts method e2);
        method = (content_of names 0 (told t) t.name (Method (record { 0 = 1 })) (snd firsts method e2)).1;
      }

  pub fits_by_test : (c : Command) → command_fits names c ≡ true → CommandFits names c
  unfolding command_fits
  fits_by_test (Spawn name) e = eqb-true (arity name) 0 e
  fits_by_test (Edit path (Read t)) e = text_of' t e
  fits_by_test (Edit path (Unread kind at_line column)) e = tt
  fits_by_test (Switch k) e = tt
  fits_by_test (Run n) e = tt
  fits_by_test (Continue n) e = tt
  fits_by_test Step e = tt
  fits_by_test (Interrupt n) e = tt
  fits_by_test (Finish n) e = tt
  fits_by_test Stack e = tt
  fits_by_test Units e = tt
  fits_by_test Machine e = tt
  fits_by_test (Advisor k) e = tt
