-- What the frame in view shows when an activation with a context has begun.
use Rattle.std.proofs.Common.{◌≡◌, ℕ, ◌+◌, ◌*◌, refl, ◌∙◌, ap, sym, subst, arith, inl, inr, length-append}
use Rattle.std.specs.Prelude.{Bool, true, false, if◌then◌else◌, List, [], ◌∷◌, ◌++◌, length}
use Rattle.sparc_store.specs.Words.{Words, word_at, with_word, HasWord, IsWithin}
use Rattle.sparc_store.specs.Windows.{with_room, is_full, words_of, oldest, oldest_at, with_spilled}
use Rattle.sparc_store.proofs.Framing.{frame_stays_within}
use Rattle.sparc_store.proofs.Placed.{others_stay, put_there, put_stays_within}
use Rattle.sparc_machine.specs.State.{MachineState}
use Rattle.frame_walk.specs.Places.{holder_offset}
use Rattle.plain_words.specs.Moves.{HasRoom, registers_from, with_words, given_maker, given_receiver, given_holder}
use Rattle.plain_words.specs.Showing.{BegunShows}
use Rattle.plain_words.proofs.Placing.{placed}
use Rattle.plain_words.proofs.Shown.{outside}
use Rattle.plain_words.proofs.Prologue.{registers_long}
use Rattle.plain_words.proofs.Stored.{words_others, words_put}

spilled_within : (full : Bool) (memory : Words) (at : ℕ) (held : List (ℕ → ℕ)) → IsWithin memory → IsWithin (if full then with_spilled memory at held else memory)
spilled_within true memory at held whole = frame_stays_within memory (oldest_at at held) (words_of (oldest held)) whole
spilled_within false memory at held whole = whole

room_within : (m : MachineState) → IsWithin m.memory → IsWithin (with_room m.memory (m.regs 30) m.older)
room_within m whole = spilled_within (is_full m.older) m.memory (m.regs 30) m.older whole

pub begun_shows : BegunShows
begun_shows block m to p place words map arguments initial whole can frame enough heap begun =
    let top = m.regs 6 in
    let room = with_room m.memory (m.regs 30) m.older in
    let held = with_word room (place + holder_offset) (given_holder block m) in
    let given = registers_from m.regs 9 arguments ++ initial in
    let cell = map ∷ given_maker block m ∷ place ∷ given_receiver block m ∷ given in
    let all = 4 + (arguments + length initial) in
    let new = with_words held top cell in
    let long : length cell ≡ all = omega (arith, length-append (registers_from m.regs 9 arguments) initial, registers_long m.regs 9 arguments) in
    let heap2 : HasRoom top (length cell) = (let P : ℕ → Type 0 = HasRoom top in subst P (sym long) heap) in
    let d = placed place words holder_offset frame refl (omega arith) in
    let there : HasWord (place + holder_offset) = (let P : ℕ → Type 0 = HasWord in subst P d.address d.has) in
    let within1 = room_within m whole in
    let within2 = put_stays_within room (place + holder_offset) (given_holder block m) within1 in
    let holder : word_at new (place + holder_offset) ≡ given_holder block m =
    words_others cell held top (place + holder_offset) (inr (omega (arith, heap2.to, frame.1))) ∙ put_there room (place + holder_offset) (given_holder block m) within1 there in
    let holder_is : word_at to.memory (to.regs 14 + holder_offset) ≡ given_holder block m = ap (λ z. word_at z (to.regs 14 + holder_offset)) begun.memory_is ∙ ap (λ z. word_at new (z + holder_offset)) begun.frame ∙ holder in (
      λ number i. record {
        body = number;
        next = 0;
        receiver = begun.receiver i;
        holder = holder_is i;
        outer = begun.outer i;
        context = begun.context i;
        mark = begun.frame i;
        locals = [];
        pending = [];
      },
      λ j lt. ap (λ z. word_at z (top + 4 * j)) begun.memory_is ∙ words_put cell held top j within2 heap2 (omega (arith, long, lt)),
      λ b out apart. ap (λ z. word_at z b) begun.memory_is ∙ words_others cell held top b (elim apart [ inl below ↦ inl below | inr above ↦ inr (omega (arith, long, above)) ])
          ∙ others_stay room (place + holder_offset) (given_holder block m) b (outside place words holder_offset b out (omega arith)),
    )
