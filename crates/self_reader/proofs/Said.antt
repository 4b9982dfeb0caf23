-- What is said at many signs, one by one.
use Rattle.std.proofs.Common.{◌≡◌, ℕ, pos, ◌+◌, ◌<◌, List, [], ◌∷◌, ◌++◌, length, get_or, drop, refl, ap, sym, ◌∙◌, append_assoc, arith}
use Rattle.std.specs.Prelude.{Result, Ok, Err}
use Rattle.std.proofs.lemmas.List.{at_drop_more, at_drop_all}
use Rattle.self_grammar.specs.declared.signs.Sign.{Sign}
use Rattle.self_grammar.specs.declared.signs.Symbol.TheVariants as sign
use Rattle.self_grammar.specs.declared.signs.ReadRefusal.{ReadRefusal}
use Rattle.self_grammar.specs.declared.pieces.Item.{Item}
use Rattle.self_grammar.specs.Counts.{Limits}
use Rattle.self_reader.specs.declared.stops.ReadStop.{ReadStop}
use Rattle.self_reader.specs.declared.stops.ReadStop.TheVariants as stops
use Rattle.self_reader.specs.declared.reading.Reader.{Reader}
use Rattle.self_reader.specs.Reading.{fed, said_at, behind, then, all_said, Answers}

-- a sign where there is none
abbrev pub no_sign : Sign
no_sign = record { symbol = sign.Integer (pos 0); spot = record { line = 0; column = 0 } }

no_more : (xs : List Item) → xs ++ [] ≡ xs
no_more [] = refl
no_more (x ∷ xs) = ap (λ ys. x ∷ ys) (no_more xs)

pub behind_none : (y : Result (List Item) ReadRefusal) → behind [] y ≡ y
behind_none (Ok js) = refl
behind_none (Err e) = refl

behind_behind : (xs ys : List Item) (y : Result (List Item) ReadRefusal) → behind (xs ++ ys) y ≡ behind xs (behind ys y)
behind_behind xs ys (Ok js) = ap Ok (append_assoc xs ys js)
behind_behind xs ys (Err e) = refl

module _ (l : Limits) (signs : List Sign) (i : ℕ) (d : Sign) (r : Reader) (items : List Item) (want : Result (List Item) ReadRefusal) where
  pub said_more : (next : Reader) (now : List Item) → i < length signs → behind items (all_said l r (drop i signs)) ≡ want → fed l r (get_or signs i d).symbol (get_or signs i d).spot ≡ Ok next
      → now ≡ items ++ said_at l r (get_or signs i d).symbol (get_or signs i d).spot → behind now (all_said l next (drop (i + 1) signs)) ≡ want
  unfolding all_said
  said_more next now lt so f s =
      ap (λ is. behind is (all_said l next (drop (i + 1) signs))) s
      ∙ behind_behind items (said_at l r (get_or signs i d).symbol (get_or signs i d).spot) (all_said l next (drop (i + 1) signs))
      ∙ sym (ap (λ y. behind items (then y (λ q. behind (said_at l r (get_or signs i d).symbol (get_or signs i d).spot) (all_said l q (drop (i + 1) signs))))) f)
      ∙ sym (ap (λ y. behind items y) (at_drop_more (all_said l r) signs i d lt))
      ∙ so

  pub said_stops : (A : Type 0) (view : A → List Item) (stop : ReadStop) → i < length signs → behind items (all_said l r (drop i signs)) ≡ want
      → Answers (λ q. q) (Err stop) (fed l r (get_or signs i d).symbol (get_or signs i d).spot) → Answers view (Err stop) want
  unfolding all_said
  said_stops A view (stops.Refused e) lt so f =
      sym so
      ∙ ap (λ y. behind items y) (at_drop_more (all_said l r) signs i d lt)
      ∙ ap (λ y. behind items (then y (λ q. behind (said_at l r (get_or signs i d).symbol (get_or signs i d).spot) (all_said l q (drop (i + 1) signs))))) f
  said_stops A view stops.OutOfMemory lt so f = tt

pub said_whole : (l : Limits) (signs : List Sign) (r : Reader) (items : List Item) (want : Result (List Item) ReadRefusal) → behind items (all_said l r (drop (length signs) signs)) ≡ want → want ≡ Ok items
unfolding all_said
said_whole l signs r items want so = sym so ∙ ap (λ y. behind items y) (at_drop_all (all_said l r) signs (length signs) (omega arith)) ∙ ap Ok (no_more items)
