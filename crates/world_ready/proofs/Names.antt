-- The names of the world of an accepted text, and those of a session behind them.
use Rattle.std.specs.Prelude.{◌≡◌, ℕ, zero, suc, ◌≤◌, ◌++◌, fold, true, false, Ok, Some, List, [], ◌∷◌, slice_get, codes, refl}
use Rattle.std.proofs.Common.{ap, sym, subst, arith}
use Rattle.std.proofs.lemmas.Bool.{and_parts}
use Rattle.std.proofs.lemmas.Option.{none-some, same_Some}
use Rattle.self_terms.specs.Names.{with_text}
use Rattle.self_tokens.specs.declared.symbols.Token.{Token}
use Rattle.self_tokens.specs.Tokens.{tokens}
use Rattle.self_grammar.specs.declared.pieces.Item.{Item}
use Rattle.self_grammar.specs.Spelling.{world, items_of}
use Rattle.self_signs.specs.Signs.{needed, names_after}
use Rattle.source_model.specs.Names.{is_text, number_of, evaluator}
use Rattle.source_model.specs.Formed.{Takes, IsWellFormed, arity}
use Rattle.world_blocks.specs.Sessions.{session_texts, with_texts, session_names}
use Rattle.world_build.specs.Loading.{begun as loading_begun}
use Rattle.world_build.specs.Nodes
use Rattle.world_build.specs.Worlds.{World, built}
use Rattle.world_build.proofs.Given.{IsIn, in_with, own_in, spelt}
use Rattle.world_build.proofs.Grown.{Extends, extends_same, extends_then, extends_text, extends_world, loaded_later}
use Rattle.world_build.proofs.Ordered.{made_of}
use Rattle.world_state.specs.Begun.{begun}
use Rattle.world_test.specs.Further.{starts_fixed}
use Rattle.world_facts.specs.Accepted.{IsAccepted}
use Rattle.world_code.specs.Limited.{IsLimited}
use Rattle.world_formed.proofs.Begins.{accepted_formed}

-- The names of a session.

in_session : (ts names : List (List ℕ)) (t : List ℕ) → IsIn names t → IsIn (with_texts names ts) t
in_session [] names t h = h
in_session (u ∷ ts) names t h = in_session ts (with_text names u) t (in_with names u t h)

texts_in : (ts names : List (List ℕ)) (k : ℕ) (t : List ℕ) → slice_get ts k ≡ Some t → IsIn (with_texts names ts) t
texts_in [] names k t is = absurd (none-some t is)
texts_in (u ∷ ts) names zero t is = subst (λ (x : List ℕ). IsIn (with_texts (with_text names u) ts) x) (same_Some u t is) (in_session ts (with_text names u) u (own_in names u))
texts_in (u ∷ ts) names (suc k) t is = texts_in ts (with_text names u) k t is

extends_session : (ts names : List (List ℕ)) → Extends names (with_texts names ts)
extends_session [] names = extends_same names
extends_session (t ∷ ts) names = extends_then names (with_text names t) (with_texts (with_text names t) ts) (extends_text names t) (extends_session ts (with_text names t))

extends_names : (w : World) → Extends w.names (session_names w)
unfolding session_names
extends_names w = extends_session session_texts w.names

pub goes_on : (w : World) → (more : List (List ℕ)) × (session_names w ≡ w.names ++ more)
goes_on w = let g = extends_names w in (g.more, g.is)

own_there : (w : World) (k : ℕ) (t : List ℕ) → slice_get session_texts k ≡ Some t → IsIn (session_names w) t
unfolding session_names
own_there w k t is = texts_in session_texts w.names k t is

takes : (w : World) (k : ℕ) (t : List ℕ) (args : ℕ) → slice_get session_texts k ≡ Some t → arity t ≡ args → Takes (session_names w) (number_of (session_names w) t) args
takes w k t args is e = record { text = t; given = (spelt (session_names w) t (own_there w k t is)).given; arguments = e }

pub evaluators : (w : World) (k : ℕ) → k ≤ 5 → Takes (session_names w) (number_of (session_names w) (evaluator k)) k
evaluators w zero le = takes w 1 (evaluator 0) 0 refl refl
evaluators w (suc zero) le = takes w 2 (evaluator 1) 1 refl refl
evaluators w (suc (suc zero)) le = takes w 3 (evaluator 2) 2 refl refl
evaluators w (suc (suc (suc zero))) le = takes w 4 (evaluator 3) 3 refl refl
evaluators w (suc (suc (suc (suc zero)))) le = takes w 5 (evaluator 4) 4 refl refl
evaluators w (suc (suc (suc (suc (suc zero))))) le = takes w 6 (evaluator 5) 5 refl refl
evaluators w (suc (suc (suc (suc (suc (suc k)))))) le = absurd (omega (arith, le))

pub taken : (w : World) → Takes (session_names w) (number_of (session_names w) (codes "value:With:")) 2
taken w = evaluators w 2 (omega arith)

-- The two fixed names.

start_stays : (names more : List (List ℕ)) → starts_fixed names ≡ true → starts_fixed (names ++ more) ≡ true
start_stays [] more e = absurd (cc)
start_stays (x ∷ []) more e = absurd (let bad = (and_parts (is_text x (codes "_IntAdd:")) false e).1 in cc)
start_stays (x ∷ y ∷ names) more e = e

start_extends : (old new : List (List ℕ)) → Extends old new → starts_fixed old ≡ true → starts_fixed new ≡ true
start_extends old new h e = subst (λ (ns : List (List ℕ)). starts_fixed ns ≡ true) (sym h.is) (start_stays old h.more e)

pub stays_fixed : (w : World) → starts_fixed w.names ≡ true → starts_fixed (session_names w) ≡ true
stays_fixed w e = start_extends w.names (session_names w) (extends_names w) e

-- Names that were given before a text stay in front.

extends_texts : (names texts : List (List ℕ)) → Extends names (fold with_text names texts)
extends_texts names [] = extends_same names
extends_texts names (t ∷ texts) = extends_then names (with_text names t) (fold with_text (with_text names t) texts) (extends_text names t) (extends_texts (with_text names t) texts)

extends_after : (names : List (List ℕ)) (bytes : List ℕ) (ts : List Token) → Extends names (names_after names bytes ts)
extends_after names bytes [] = extends_same names
extends_after names bytes (t ∷ ts) =
    let now : List (List ℕ) = fold with_text names (needed bytes t) in
    extends_then names now (names_after now bytes ts) (extends_texts names (needed bytes t)) (extends_after now bytes ts)

extends_built : (first : List (List ℕ)) (bytes : List ℕ) (is : List Item) (w : World) → built first bytes is ≡ Ok w → Extends first w.names
extends_built first bytes is w e =
    let m = made_of (Nodes.loaded bytes is (loading_begun first)) w e in
    let later = loaded_later bytes is (loading_begun first) m.loading m.was in
    subst (λ (ns : List (List ℕ)). Extends first ns) (sym (ap (λ (x : World). x.names) m.is)) (extends_then first (loading_begun first).names m.loading.names (extends_world first) later.names)

pub accepted_start : (bytes : List ℕ) (w : World) (a : IsAccepted bytes w) → a.known ≡ codes "_IntAdd:" ∷ codes "_IntSub:" ∷ [] → starts_fixed w.names ≡ true
accepted_start bytes w a known =
    let first : List (List ℕ) = names_after a.known bytes (tokens bytes) in
    let all = extends_then a.known first w.names (extends_after a.known bytes (tokens bytes)) (extends_built first bytes (items_of (world a.limits a.text)) w a.made) in
    start_extends a.known w.names all (subst (λ (ns : List (List ℕ)). starts_fixed ns ≡ true) (sym known) refl)

-- Sessions.

pub accepted_sessions : (bytes : List ℕ) (w : World) (a : IsAccepted bytes w) → IsLimited a.limits → (advisors : ℕ) → IsWellFormed (begun w (session_names w) advisors)
accepted_sessions bytes w a limited advisors =
    let g = goes_on w in
    subst (λ (ns : List (List ℕ)). IsWellFormed (begun w ns advisors)) (sym g.1)
    (accepted_formed bytes w a limited g.0 advisors (subst (λ (ns : List (List ℕ)). Takes ns (number_of ns (codes "value:With:")) 2) g.1 (taken w)))
