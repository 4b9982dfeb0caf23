-- Where the words of a frame stand.
use Rattle.std.proofs.Common.{◌≡◌, ℕ, ◌+◌, ◌*◌, ◌/◌, ◌%◌, ◌^◌, ◌<◌, ◌≤◌, ◌∙◌, subst, arith}
use Rattle.std.specs.Prelude.{bit_or}
use Rattle.std.proofs.lemmas.Nat.{or_shifted}
use Rattle.sparc_store.specs.Words.{HasWord, HasFrame}
use Rattle.sparc_store.proofs.Framing.{frame_word}
use Rattle.sparc_machine.specs.Alu.{add}

-- a word is put together of its upper 22 bits and its lower ten
pub two_parts : (w : ℕ) → bit_or (w / 1024 * 2 ^ 10) (w % 1024) ≡ w
two_parts w = or_shifted (w / 1024) 10 (w % 1024) (omega arith) ∙ omega arith

-- a word of a frame, so many bytes from where the frame begins
pub record IsPlaced (sp d : ℕ) : Type 0 where
  pub address : add sp d ≡ sp + d
  pub has : HasWord (add sp d)
  pub outside : 0x20000000 ≤ add sp d

pub placed : (sp words d : ℕ) → HasFrame sp words → d % 4 ≡ 0 → d < 4 * words → IsPlaced sp d
placed sp words d f whole low =
    let e : add sp d ≡ sp + d = omega (arith, f.1, f.2, f.3) in
    let h = frame_word sp words (d / 4) f (omega arith) in
    let g : sp + 4 * (d / 4) ≡ add sp d = omega (arith, e, whole) in
    record {
      address = e;
      has = (let P : ℕ → Type 0 = HasWord in subst P g h);
      outside = omega (arith, e, f.1);
    }
