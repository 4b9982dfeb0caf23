-- The lines of frames, as activations are shown, and how those of the source are shown.
use Rattle.std.specs.Prelude.{ℕ, ◌+◌, ◌<◌, ◌≤◌, Option, Some, None, option_map, unwrap_or, List, [], ◌∷◌, ◌++◌, length, map, zip, reverse, flat_map, codes, decimal}
use Rattle.std.specs.List.{join_with_byte}
use Rattle.self_terms.specs.declared.bodies.Body.{Body}
use Rattle.source_model.specs.declared.objects.Core.{Core}
use Rattle.source_model.specs.Names.{text_named}
use Rattle.source_model.specs.Soundness.{body_in}
use Rattle.source_model.specs.State.{Activation}
use Rattle.source_model.specs.Step.{place_at}
use Rattle.source_model.specs.Texts.{place_text}
use Rattle.source_model.specs.Lines.{line, local_names, position_in, selector_text}
use Rattle.session_text.specs.Values.{as_shown, shown_text}
use Rattle.session_text.specs.declared.acts.ShownAct.{ShownAct}
use Rattle.session_text.specs.declared.lines.ShownValue.{ShownValue}

-- a local with its name
abbrev pub local_text : Core → List (List ℕ) → ℕ × ShownValue → List ℕ
local_text core names x = codes " " ++ text_named names x.0 ++ codes "=" ++ shown_text core x.1

abbrev pub locals_text : Core → List (List ℕ) → List ℕ → List ShownValue → List ℕ
locals_text core names locals values = flat_map (local_text core names) (zip locals values)

-- values with a space between each two
abbrev pub values_text : Core → List ShownValue → List ℕ
values_text core values = join_with_byte 32 (map (shown_text core) values)

-- pending values, the oldest first
abbrev pub pending_text : Core → List ShownValue → List ℕ
pending_text core values = codes " [" ++ values_text core values ++ codes "]"

-- an activation of a body, at a position from 1 for the oldest, up to its receiver
abbrev pub head_text : Core → List (List ℕ) → Body → ℕ → ShownAct → List ℕ
head_text core names b position act =
    codes "frame " ++ decimal position ++ codes " " ++ selector_text names b.name ++ codes " " ++ place_text (place_at b act.next) ++ codes " self " ++ shown_text core act.receiver

-- its line
abbrev pub frame_text : Core → List (List ℕ) → Body → ℕ → ShownAct → List ℕ
frame_text core names b position act =
    line (head_text core names b position act ++ locals_text core names (local_names b) act.locals ++ pending_text core act.pending)

-- that of the activation at a position of those that are shown, the oldest first
abbrev pub act_text : Core → List (List ℕ) → List Body → ℕ → Option ShownAct → List ℕ
act_text core names bodies position None = []
act_text core names bodies position (Some act) = frame_text core names (body_in bodies act.body.0) position act

-- an activation is there, its body is known, and its line has at most 4,000,000 bytes
abbrev pub ActHasRoom : Core → List (List ℕ) → List Body → ℕ → Option ShownAct → Type 0
ActHasRoom core names bodies position None = ⊥
ActHasRoom core names bodies position (Some act) =
    (0 < act.body.0) × (act.body.0 ≤ length bodies) × (length (frame_text core names (body_in bodies act.body.0) position act) ≤ 4000000)

-- the name of a body's slot is short enough, and so are those of its arguments and locals together
pub record HasShortNames (names : List (List ℕ)) (b : Body) : Type 0 where
  pub slot : length (selector_text names b.name) ≤ 1950000
  pub locals : length (flat_map (text_named names) (local_names b)) ≤ 1950000

-- an activation is there, its body is known, and its names are short enough
abbrev pub ActHasNames : List (List ℕ) → List Body → Option ShownAct → Type 0
ActHasNames names bodies None = ⊥
ActHasNames names bodies (Some act) = (0 < act.body.0) × (act.body.0 ≤ length bodies) × HasShortNames names (body_in bodies act.body.0)

-- An activation of the source among all of its activity, as it is shown.
abbrev pub act_of : List Activation → Activation → ShownAct
act_of all a = record {
  body = record { 0 = a.body };
  next = a.next;
  receiver = as_shown all a.receiver;
  holder = a.holder;
  maker = unwrap_or (option_map (λ k. unwrap_or (position_in all k) 0) a.maker) 0;
  locals = map (as_shown all) a.locals;
  pending = map (as_shown all) (reverse a.pending);
}

-- All of an activity, the oldest first.
abbrev pub shown_of : List Activation → List ShownAct
shown_of all = reverse (map (act_of all) all)

-- the lines of activations that are shown, the youngest first
abbrev pub acts_text : Core → List (List ℕ) → List Body → List ShownAct → List ℕ
acts_text core names bodies [] = []
acts_text core names bodies (act ∷ older) = frame_text core names (body_in bodies act.body.0) (length older + 1) act ++ acts_text core names bodies older
