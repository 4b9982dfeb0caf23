-- There is room for units of all bodies of the world of an accepted text, none of which has more than five arguments.
use Rattle.std.specs.Prelude.{◌≡◌, ℕ, suc, ◌+◌, ◌-◌, ◌*◌, ◌<◌, ◌≤◌, Option, None, Some, List, [], ◌∷◌, length, slice_get, unwrap_or, refl}
use Rattle.std.proofs.Common.{ap, subst, ◌∙◌, arith}
use Rattle.self_terms.specs.declared.bodies.Body.{Body}
use Rattle.self_tokens.specs.Tokens.{tokens}
use Rattle.self_grammar.specs.declared.pieces.Item.{Item}
use Rattle.self_grammar.specs.Spelling.{world, items_of}
use Rattle.self_signs.specs.Signs.{signs, names_after}
use Rattle.plain_turns.specs.Rooms.{most_words}
use Rattle.plain_opens.specs.Opens.{all_words}
use Rattle.world_build.specs.Worlds.{World}
use Rattle.world_build.proofs.BodyParts.{parts, all_parts, built_parts}
use Rattle.world_facts.specs.Accepted.{IsAccepted}
use Rattle.world_blocks.specs.Sessions.{HasFewArguments}
use Rattle.world_code.specs.Limited.{IsLimited}
use Rattle.world_code.proofs.Runnable.{accepted_runnable}
use Rattle.world_formed.proofs.Fits.{accepted_sounds}
use Rattle.world_ready.proofs.Counted.{few_counts}

-- A body has a node, so its words are at most 120 for each of its nodes, arguments and locals.
words_few : (x : Body) → 0 < length x.nodes → most_words x ≤ 120 * parts x
words_few x some = omega (arith, some)

all_few : (xs : List Body) → ((k : ℕ) (x : Body) → slice_get xs k ≡ Some x → 0 < length x.nodes) → all_words xs ≤ 120 * all_parts xs
all_few [] some = omega arith
all_few (x ∷ xs) some =
    let here : all_words (x ∷ xs) ≡ most_words x + all_words xs = refl in
    omega (arith, here, words_few x (some 0 x refl), all_few xs (λ k y e. some (suc k) y e))

pub accepted_room : (bytes : List ℕ) (w : World) (a : IsAccepted bytes w) → IsLimited a.limits → all_words w.bodies ≤ 8388352
accepted_room bytes w a limited =
    let first : List (List ℕ) = names_after a.known bytes (tokens bytes) in
    let is : List Item = items_of (world a.limits a.text) in
    omega (
      arith,
      a.size,
      few_counts a.limits (signs a.known bytes) a.text a.is,
      built_parts first bytes is w a.made,
      all_few w.bodies (λ k x at. (accepted_sounds bytes w a limited k x at).some),
    )

-- no body has more than five arguments
pub accepted_few : (bytes : List ℕ) (w : World) (a : IsAccepted bytes w) → IsLimited a.limits → HasFewArguments w
accepted_few bytes w a limited k x there =
    let place : suc k - 1 ≡ k = omega arith in
    let body = ap (λ (q : Option Body). unwrap_or q (record { name = None; outer = None; arguments = []; locals = []; nodes = []; places = [] })) (ap (slice_get w.bodies) place ∙ there) in
    subst (λ (q : Body). length q.arguments ≤ 5) body (accepted_runnable bytes w a limited (suc k)).translates.arguments
