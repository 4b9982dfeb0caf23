-- The bytes of a world file mean one thing: a world, or a line that refuses them.
use Rattle.std.specs.Prelude.{◌≡◌, ℕ, ◌≤◌, Bool, true, false, nat_lt, Result, Ok, Err, List, length, refl}
use Rattle.std.proofs.Common.{ap, sym, ◌∙◌, arith, inl, inr, ltb-true, ltb-false}
use Rattle.self_grammar.specs.declared.signs.ReadRefusal.{ReadRefusal}
use Rattle.self_grammar.specs.Grammar as grammar
use Rattle.self_grammar.proofs.Refusals.{one_world_refusal, refused_is_no_world, world_or_refusal}
use Rattle.self_grammar.proofs.Theorem.{one_world}
use Rattle.self_reader.specs.declared.texts.TheConstants.{LIMITS}
use Rattle.self_signs.specs.Signs.{signs}
use Rattle.self_reader.specs.Texts.{known}
use Rattle.world_build.specs.declared.refusals.BuildRefusal.{BuildRefusal}
use Rattle.world_build.specs.Worlds.{World}
use Rattle.self_debugger.specs.WorldLines.{read_line, build_line}
use Rattle.self_debugger.specs.WorldFiles.{Spells, built_of, WorldRead, too_long, refused, unbuilt, read}
use Rattle.self_debugger.proofs.ClosedSigns.{signs_closed}

abbrev pub Meaning : Type 0
Meaning = Result World (List ℕ)

abbrev Building : Type 0
Building = Result World BuildRefusal

abbrev Refuse : List ℕ → Meaning
Refuse line = Err line

abbrev Fail : BuildRefusal → Building
Fail b = Err b

abbrev Make : World → Building
Make w = Ok w

abbrev pub Mean : World → Meaning
Mean w = Ok w

one_failure : (b c : BuildRefusal) → Fail b ≡ Fail c → b ≡ c
one_failure b c e = cc

one_made : (v w : World) → Make v ≡ Make w → v ≡ w
one_made v w e = cc

not_both : (b : BuildRefusal) (w : World) → Fail b ≡ Make w → ⊥
not_both b w e = cc

-- two texts of the same bytes build the same
same_built : (bytes : List ℕ) (t u : grammar.World) (a b : Building) → Spells bytes t → Spells bytes u → built_of bytes t ≡ a → built_of bytes u ≡ b → a ≡ b
same_built bytes t u a b x y e f = sym e ∙ ap (built_of bytes) (one_world LIMITS (signs known bytes) t u x y) ∙ f

pub one_read : (bytes : List ℕ) (a b : Result World (List ℕ)) → WorldRead bytes a → WorldRead bytes b → a ≡ b
one_read bytes _ _ (too_long h) (too_long k) = refl
one_read bytes _ _ (too_long h) (refused q k j) = absurd (omega arith)
one_read bytes _ _ (too_long h) (unbuilt u c k y f) = absurd (omega arith)
one_read bytes _ _ (too_long h) (read u v k y f) = absurd (omega arith)
one_read bytes _ _ (refused r h i) (too_long k) = absurd (omega arith)
one_read bytes _ _ (refused r h i) (refused q k j) = ap (λ (x : ReadRefusal). Refuse (read_line x)) (one_world_refusal LIMITS (signs known bytes) r q i j)
one_read bytes _ _ (refused r h i) (unbuilt u c k y f) = absurd (refused_is_no_world LIMITS (signs known bytes) r i u y)
one_read bytes _ _ (refused r h i) (read u v k y f) = absurd (refused_is_no_world LIMITS (signs known bytes) r i u y)
one_read bytes _ _ (unbuilt t b h x e) (too_long k) = absurd (omega arith)
one_read bytes _ _ (unbuilt t b h x e) (refused q k j) = absurd (refused_is_no_world LIMITS (signs known bytes) q j t x)
one_read bytes _ _ (unbuilt t b h x e) (unbuilt u c k y f) = ap (λ (z : BuildRefusal). Refuse (build_line z)) (one_failure b c (same_built bytes t u (Fail b) (Fail c) x y e f))
one_read bytes _ _ (unbuilt t b h x e) (read u v k y f) = absurd (not_both b v (same_built bytes t u (Fail b) (Make v) x y e f))
one_read bytes _ _ (read t w h x e) (too_long k) = absurd (omega arith)
one_read bytes _ _ (read t w h x e) (refused q k j) = absurd (refused_is_no_world LIMITS (signs known bytes) q j t x)
one_read bytes _ _ (read t w h x e) (unbuilt u c k y f) = absurd (not_both c w (same_built bytes u t (Fail c) (Make w) y x f e))
one_read bytes _ _ (read t w h x e) (read u v k y f) = ap (λ (z : World). Mean z) (one_made w v (same_built bytes t u (Make w) (Make v) x y e f))

pub one_line : (bytes x y : List ℕ) → WorldRead bytes (Err x) → WorldRead bytes (Err y) → x ≡ y
one_line bytes x y a b = same (one_read bytes (Refuse x) (Refuse y) a b)
  where
    same : Refuse x ≡ Refuse y → x ≡ y
    same e = cc

pub one_world_read : (bytes : List ℕ) (v w : World) → WorldRead bytes (Ok v) → WorldRead bytes (Ok w) → v ≡ w
one_world_read bytes v w a b = same (one_read bytes (Mean v) (Mean w) a b)
  where
    same : Mean v ≡ Mean w → v ≡ w
    same e = cc

pub never_both : (bytes line : List ℕ) (w : World) → WorldRead bytes (Err line) → WorldRead bytes (Ok w) → ⊥
never_both bytes line w a b = apart (one_read bytes (Refuse line) (Mean w) a b)
  where
    apart : Refuse line ≡ Mean w → ⊥
    apart e = cc

-- They mean something.
abbrev Known : List ℕ → Type 0
Known bytes = (o : Result World (List ℕ)) × WorldRead bytes o

by_building : (bytes : List ℕ) (t : grammar.World) (o : Building) → length bytes ≤ 1048576 → Spells bytes t → built_of bytes t ≡ o → Known bytes
by_building bytes t (Err b) h x e = (Err (build_line b), unbuilt t b h x e)
by_building bytes t (Ok w) h x e = (Ok w, read t w h x e)

by_length : (bytes : List ℕ) (long : Bool) → nat_lt 1048576 (length bytes) ≡ long → Known bytes
by_length bytes true e = (_, too_long (ltb-true 1048576 (length bytes) e))
by_length bytes false e =
    let h : length bytes ≤ 1048576 = ltb-false 1048576 (length bytes) e in
    elim (world_or_refusal LIMITS (signs known bytes) (signs_closed known bytes)) [
      | inl t ↦ by_building bytes t.0 (built_of bytes t.0) h t.1 refl
      | inr r ↦ (Err (read_line r.0), refused r.0 h r.1)
    ]

pub some_read : (bytes : List ℕ) → (o : Result World (List ℕ)) × WorldRead bytes o
some_read bytes = by_length bytes (nat_lt 1048576 (length bytes)) refl

-- What is a world is the world of a text.
pub record Text (bytes : List ℕ) (w : World) : Type 0 where
  pub text : grammar.World
  pub spelt : Spells bytes text
  pub made : built_of bytes text ≡ Ok w

text_by : (bytes : List ℕ) (o : Result World (List ℕ)) (w : World) → WorldRead bytes o → o ≡ Mean w → Text bytes w
text_by bytes _ w (too_long h) e = cc
text_by bytes _ w (refused r h i) e = cc
text_by bytes _ w (unbuilt t b h x f) e = cc
text_by bytes _ w (read t v h x f) e = let same : v ≡ w = cc in record { text = t; spelt = x; made = f ∙ ap Make same }

pub text_read : (bytes : List ℕ) (w : World) → WorldRead bytes (Ok w) → Text bytes w
text_read bytes w r = text_by bytes (Ok w) w r refl
