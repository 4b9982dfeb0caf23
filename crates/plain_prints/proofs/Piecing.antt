-- A line in pieces.
use Rattle.std.proofs.Common.{◌≡◌, ℕ, suc, ◌+◌, ◌-◌, ◌<◌, ◌≤◌, List, [], ◌++◌, append_assoc, append-nil, arith, refl, sym, ap, subst, ◌∙◌, codes}
use Rattle.std.specs.Prelude.{Option, flat_map}
use Rattle.io_ports.specs.Causes.{Takes, TakesFront}
use Rattle.source_model.specs.Texts.{shown_byte, out_line}
use Rattle.sparc_store.specs.Words.{Words, byte_at}
use Rattle.plain_prints.specs.Lines.{IsSent, bytes_from}
use Rattle.plain_prints.proofs.Taking.{takes_both, takes_same, takes_none, front_of_first, front_of_both}

-- bytes as they are shown, from a place of so many on
pub shown_from : Words → ℕ → ℕ → ℕ → List ℕ
shown_from mem at count k = flat_map shown_byte (bytes_from mem (at + k) (count - k))

shown_next : (mem : Words) (at count k : ℕ) → k < count → shown_from mem at count k ≡ shown_byte (byte_at mem (at + k)) ++ shown_from mem at count (k + 1)
unfolding shown_from
shown_next mem at count k lt =
    let n : count - k ≡ suc (count - (k + 1)) = omega arith in
    let a : at + k + 1 ≡ at + (k + 1) = omega arith in
    ap (λ z. flat_map shown_byte (bytes_from mem (at + k) z)) n ∙ ap (λ z. shown_byte (byte_at mem (at + k)) ++ flat_map shown_byte (bytes_from mem z (count - (k + 1)))) a

shown_first : (mem : Words) (at count : ℕ) → shown_from mem at count 0 ≡ flat_map shown_byte (bytes_from mem at count)
unfolding shown_from
shown_first mem at count =
    let a : at + 0 ≡ at = omega arith in
    let n : count - 0 ≡ count = omega arith in
    ap (λ z. flat_map shown_byte (bytes_from mem z (count - 0))) a ∙ ap (λ z. flat_map shown_byte (bytes_from mem at z)) n

shown_last : (mem : Words) (at count k : ℕ) → count ≤ k → shown_from mem at count k ≡ []
unfolding shown_from
shown_last mem at count k le = (let n : count - k ≡ 0 = omega arith in ap (λ z. flat_map shown_byte (bytes_from mem (at + k) z)) n)

-- nothing is sent, or all
pub unsent : (a : Option (List ℕ)) (bytes : List ℕ) → IsSent a a bytes bytes
unsent a bytes = record { sent = []; took = takes_none a; whole = refl }

pub all_sent : (a b : Option (List ℕ)) (bytes : List ℕ) → Takes a b bytes → IsSent a b [] bytes
all_sent a b bytes h = record { sent = bytes; took = h; whole = append-nil bytes }

-- Before the first byte, from one to the next, and behind the last.
pub text_begins : (a : Option (List ℕ)) (mem : Words) (at count : ℕ) (held : List ℕ) → IsSent a a (held ++ shown_from mem at count 0) (held ++ flat_map shown_byte (bytes_from mem at count))
text_begins a mem at count held = record { sent = []; took = takes_none a; whole = ap (λ z. held ++ z) (shown_first mem at count) }

joined : (i r s t u : List ℕ) → (i ++ r) ++ ((s ++ t) ++ u) ≡ i ++ ((r ++ s) ++ (t ++ u))
joined i r s t u = append_assoc i r ((s ++ t) ++ u) ∙ ap (λ z. i ++ z) (ap (λ z. r ++ z) (append_assoc s t u) ∙ sym (append_assoc r s (t ++ u)))

pub text_goes : (a b c : Option (List ℕ)) (mem : Words) (at count k byte : ℕ) (held room more bytes : List ℕ) → k < count → IsSent a b (held ++ shown_from mem at count k) bytes → IsSent b c room held → byte ≡ byte_at mem (at + k) → more ≡ room ++ shown_byte byte
    → IsSent a c (more ++ shown_from mem at count (k + 1)) bytes
text_goes a b c mem at count k byte held room more bytes lt s r is put =
    let rest = shown_from mem at count (k + 1) in
    let shown = shown_byte (byte_at mem (at + k)) in
    record {
      sent = s.sent ++ r.sent;
      took = takes_both a b c s.sent r.sent s.took r.took;
      whole = ap (λ z. (s.sent ++ r.sent) ++ (z ++ rest)) (put ∙ ap (λ z. room ++ shown_byte z) is)
          ∙ joined s.sent r.sent room shown rest
          ∙ ap (λ z. s.sent ++ (z ++ (shown ++ rest))) r.whole
          ∙ ap (λ z. s.sent ++ (held ++ z)) (sym (shown_next mem at count k lt))
          ∙ s.whole;
    }

pub text_ends : (a b : Option (List ℕ)) (mem : Words) (at count k : ℕ) (held bytes : List ℕ) → count ≤ k → IsSent a b (held ++ shown_from mem at count k) bytes → IsSent a b held bytes
text_ends a b mem at count k held bytes le s =
    record { sent = s.sent; took = s.took; whole = ap (λ z. s.sent ++ z) (sym (append-nil held) ∙ ap (λ z. held ++ z) (sym (shown_last mem at count k le))) ∙ s.whole }

-- a front of what was held went out
pub front_goes : (a b c : Option (List ℕ)) (held rest bytes : List ℕ) → IsSent a b (held ++ rest) bytes → TakesFront b c held → TakesFront a c bytes
front_goes a b c held rest bytes s f =
    let P : List ℕ → Type 0 = λ z. TakesFront a c z in
    subst P s.whole (front_of_both a b c s.sent (held ++ rest) s.took (front_of_first b c held rest f))

-- The line of a text, of which all in front of the newline is sent or held.
module _ (a b : Option (List ℕ)) (first held last text : List ℕ) (begins : first ≡ codes "out ") (s : IsSent a b held (first ++ flat_map shown_byte text)) (ends : last ≡ held ++ codes "\n") where
  whole : s.sent ++ last ≡ out_line text
  whole =
      let shown = flat_map shown_byte text in
      ap (λ z. s.sent ++ z) ends ∙ sym (append_assoc s.sent held (codes "\n")) ∙ ap (λ z. z ++ codes "\n") s.whole ∙ append_assoc first shown (codes "\n") ∙ ap (λ z. z ++ (shown ++ codes "\n")) begins

  pub line_goes : (c : Option (List ℕ)) → Takes b c last → Takes a c (out_line text)
  line_goes c h = takes_same a c (s.sent ++ last) (out_line text) (sym whole) (takes_both a b c s.sent last s.took h)

  pub line_breaks : (c : Option (List ℕ)) → TakesFront b c last → TakesFront a c (out_line text)
  line_breaks c f = (let P : List ℕ → Type 0 = λ z. TakesFront a c z in subst P whole (front_of_both a b c s.sent last s.took f))

-- a front of what is in front of the newline
pub line_stops : (a b : Option (List ℕ)) (first text : List ℕ) → first ≡ codes "out " → TakesFront a b (first ++ flat_map shown_byte text) → TakesFront a b (out_line text)
line_stops a b first text begins f =
    let P : List ℕ → Type 0 = λ z. TakesFront a b z in
    let shown = flat_map shown_byte text in
    subst P (append_assoc first shown (codes "\n") ∙ ap (λ z. z ++ (shown ++ codes "\n")) begins) (front_of_first a b (first ++ shown) (codes "\n") f)
