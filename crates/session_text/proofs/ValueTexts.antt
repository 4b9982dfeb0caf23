-- How values and frames are shown.
use Rattle.std.proofs.Common.{◌≡◌, ℕ, suc, ◌+◌, Bool, true, false, cond, List, [], ◌∷◌, ◌++◌, length, refl, ap, sym, ◌∙◌, arith, eqb-true, Some, codes, decimal}
use Rattle.std.specs.Prelude.{unwrap_or, ◌==◌, map, zip, reverse, flat_map}
use Rattle.std.specs.List.{join_with_byte}
use Rattle.std.proofs.lemmas.List.{reverse-reverse}
use Rattle.self_terms.specs.declared.values.Value.{Value}
use Rattle.self_terms.specs.declared.values.Value.TheVariants as values
use Rattle.source_model.specs.declared.objects.Core.{Core}
use Rattle.source_model.specs.Names.{text_named}
use Rattle.source_model.specs.Messages.{body_of}
use Rattle.source_model.specs.State.{Activation, State}
use Rattle.source_model.specs.Step.{place_of}
use Rattle.source_model.specs.Texts.{place_text}
use Rattle.source_model.specs.Lines.{line, selector_text, local_names, value_text, position_in, position_text, frame_line, frame_lines, local_text as source_local, pending_text as source_pending, done_line as source_done}
use Rattle.session_text.specs.Values.{shown_text, maker_text, as_shown}
use Rattle.session_text.specs.Frames.{locals_text, pending_text, frame_text, acts_text, act_of, shown_of}
use Rattle.session_text.specs.LineTexts.{done_line}

not_zero : (n : ℕ) (b : Bool) → (n + 1 == 0) ≡ b → b ≡ false
not_zero n true e = absurd (omega (arith, eqb-true (n + 1) 0 e))
not_zero n false e = refl

case : (b : Bool) (older : List Activation) (k : ℕ) → position_text (position_in older k) ≡ maker_text (unwrap_or (position_in older k) 0) →
    position_text (cond b (Some (length older + 1)) (position_in older k)) ≡ maker_text (unwrap_or (cond b (Some (length older + 1)) (position_in older k)) 0)
case true older k e = rw (not_zero (length older) (length older + 1 == 0) refl) refl
case false older k e = e

pub positions_show : (all : List Activation) (k : ℕ) → position_text (position_in all k) ≡ maker_text (unwrap_or (position_in all k) 0)
positions_show [] k = refl
positions_show (a ∷ older) k = case (a.number == k) older k (positions_show older k)

pub values_show : (core : Core) (all : List Activation) (v : Value) → value_text core all v ≡ shown_text core (as_shown all v)
values_show core all (values.Int i) = refl
values_show core all (values.Object o) = refl
values_show core all (values.Block b k) = ap (λ t. codes "[" ++ decimal b.0 ++ codes "@" ++ t ++ codes "]") (positions_show all k)

pub done_lines_show : (core : Core) (v : Value) (steps : ℕ) → source_done core v steps ≡ done_line core (as_shown [] v) steps
done_lines_show core v steps = ap (λ t. (codes "done " ++ t ++ codes " at " ++ decimal steps) ++ codes "\n") (values_show core [] v)

-- Frames.

locals_show : (s : State) (all : List Activation) (xs : List ℕ) (vs : List Value) → flat_map (source_local s all) (zip xs vs) ≡ locals_text s.core s.names xs (map (as_shown all) vs)
locals_show s all [] vs = refl
locals_show s all (x ∷ xs) [] = refl
locals_show s all (x ∷ xs) (v ∷ vs) =
    ap (λ t. (codes " " ++ text_named s.names x ++ codes "=" ++ t) ++ flat_map (source_local s all) (zip xs vs)) (values_show s.core all v)
    ∙ ap (λ t. (codes " " ++ text_named s.names x ++ codes "=" ++ shown_text s.core (as_shown all v)) ++ t) (locals_show s all xs vs)

texts_show : (core : Core) (all : List Activation) (vs : List Value) → map (value_text core all) vs ≡ map (shown_text core) (map (as_shown all) vs)
texts_show core all [] = refl
texts_show core all (v ∷ vs) = ap (λ t. t ∷ map (value_text core all) vs) (values_show core all v) ∙ ap (λ t. shown_text core (as_shown all v) ∷ t) (texts_show core all vs)

pending_shows : (s : State) (all : List Activation) (vs : List Value) → source_pending s all vs ≡ pending_text s.core (map (as_shown all) (reverse vs))
pending_shows s all vs = ap (λ t. codes " [" ++ join_with_byte 32 t ++ codes "]") (texts_show s.core all (reverse vs))

pub frames_show : (s : State) (all : List Activation) (position : ℕ) (a : Activation) → frame_line s all position a ≡ frame_text s.core s.names (body_of s a.body) position (act_of all a)
frames_show s all position a =
    let b = body_of s a.body in
    let front = codes "frame " ++ decimal position ++ codes " " ++ selector_text s.names b.name ++ codes " " ++ place_text (place_of s a) ++ codes " self " in
    ap (λ t. line (front ++ t ++ flat_map (source_local s all) (zip (local_names b) a.locals) ++ source_pending s all a.pending)) (values_show s.core all a.receiver)
    ∙ ap (λ t. line (front ++ shown_text s.core (as_shown all a.receiver) ++ t ++ source_pending s all a.pending)) (locals_show s all (local_names b) a.locals)
    ∙ ap (λ t. line (front ++ shown_text s.core (as_shown all a.receiver) ++ locals_text s.core s.names (local_names b) (map (as_shown all) a.locals) ++ t)) (pending_shows s all a.pending)

length_acts : (all acts : List Activation) → length (map (act_of all) acts) ≡ length acts
length_acts all [] = refl
length_acts all (a ∷ acts) = ap suc (length_acts all acts)

pub lines_show : (s : State) (all acts : List Activation) → frame_lines s all acts ≡ acts_text s.core s.names s.bodies (map (act_of all) acts)
lines_show s all [] = refl
lines_show s all (a ∷ acts) =
    ap (λ t. t ++ frame_lines s all acts) (frames_show s all (length acts + 1) a)
    ∙ ap (λ n. frame_text s.core s.names (body_of s a.body) (n + 1) (act_of all a) ++ frame_lines s all acts) (sym (length_acts all acts))
    ∙ ap (λ t. frame_text s.core s.names (body_of s a.body) (length (map (act_of all) acts) + 1) (act_of all a) ++ t) (lines_show s all acts)

pub stacks_show : (s : State) (all : List Activation) → frame_lines s all all ≡ acts_text s.core s.names s.bodies (reverse (shown_of all))
stacks_show s all = lines_show s all all ∙ ap (acts_text s.core s.names s.bodies) (sym (reverse-reverse (map (act_of all) all)))
