-- What holds of bodies, units and frames holds where an edit was made.
use Rattle.std.proofs.Common.{◌≡◌, ◌≢◌, ◌⊎◌, inl, inr, ℕ, zero, suc, ◌+◌, ◌-◌, ◌*◌, ◌<◌, ◌≤◌, refl, ◌∙◌, ap, sym, subst, arith, length-append}
use Rattle.std.specs.Prelude.{List, [], ◌∷◌, ◌++◌, length, map, Option, Some, None, slice_get, get_or, unwrap_or}
use Rattle.std.proofs.lemmas.Bool.{cases_lt}
use Rattle.std.proofs.lemmas.List.{get_or_append_left}
use Rattle.std.proofs.lemmas.Option.{slice_get-get_or, slice_get_within, same_Some, none-some, get_or_from_slice_get}
use Rattle.self_terms.specs.declared.bodies.Body.{Body}
use Rattle.self_terms.specs.declared.nodes.Node.{Node}
use Rattle.self_terms.specs.declared.nodes.Node.TheVariants as nodes
use Rattle.self_terms.specs.declared.values.Datum.{Datum}
use Rattle.self_terms.specs.declared.values.Datum.TheVariants as datum
use Rattle.self_terms.specs.Depths.{taken, depth}
use Rattle.sparc_insn.specs.declared.insn.Insn.{Insn}
use Rattle.sparc_store.specs.Words.{Words, word_at, HasFrame}
use Rattle.sparc_store.specs.Windows.{Frame as Window, saved_at}
use Rattle.source_model.specs.Soundness.{body_in, HasBody, IsFit, Names}
use Rattle.source_model.proofs.MoreBodies.{old_body, no_body}
use Rattle.heap_cells.proofs.Numbered.{got_left}
use Rattle.frame_walk.specs.Places.{plain_descriptor}
use Rattle.frame_walk.specs.Walk.{activations, AreLaid, SameBetween}
use Rattle.frame_walk.proofs.Resting.{rests, laid_as, shown_as, saved_same}
use Rattle.plain_words.specs.Going.{At, IsCodeFrom}
use Rattle.plain_words.specs.declared.units.Point.{Point}
use Rattle.plain_words.specs.Units.{datum_word, numbered, frame_words, frame_locals, unit_code, unit_points}
use Rattle.plain_runs.specs.Host.{Host, descriptor_at}
use Rattle.plain_runs.specs.Units.{node_offset, HasUnit, IsPoll, IsInPoll, IsBehindCall}
use Rattle.plain_runs.specs.Sound.{IsRoomy, IsCaller, IsHeld, Calls, Polls, NamesObject, HoldsObject, IsRunnable, ending_stub}
use Rattle.plain_runs.specs.Course.{AllRun}
use Rattle.plain_runs.proofs.Located.{slice_front, slice_behind}
use Rattle.plain_runs.proofs.Pointed.{call_descriptor, in_poll_descriptor}
use Rattle.plain_runs.proofs.Working.{held_have_room, callers_have_room}
use Rattle.plain_units.proofs.Points.{at_same}
use Rattle.plain_edits.specs.Heaps.{text_words, text_references}
use Rattle.plain_edits.specs.Edits.{Edit, with_edit}
use Rattle.plain_edits.proofs.Units.{SameNode, SameWords, unit_same, points_same, offset_same}

-- plain code runs each new body
abbrev pub NewRun : Host → Edit → Type 0
NewRun h e = (k : ℕ) (x : Body) → slice_get e.bodies k ≡ Some x → IsRunnable (h.next + length e.text.strings) x

-- What the words of an edit rest on: bodies fit and run; units know as many maps as bodies; and words outside the heap are as they were.
pub record Ground (h : Host) (e : Edit) (memory : Words) : Type 0 where
  pub fit : (n : ℕ) → HasBody h.bodies n → IsFit h.bodies n
  pub run : AllRun h
  pub new : NewRun h e
  pub all : length h.references.objects + length e.since ≡ h.next
  pub maps_of : length h.references.blocks ≡ length h.bodies
  pub outside : (b : ℕ) → (b < 0x20000000) ⊎ (0x20000000 + 46137344 ≤ b) → word_at memory b ≡ word_at h.machine.memory b

references_long : (at : ℕ) (xs : List (List ℕ)) → length (text_references at xs) ≡ length xs
references_long at [] = refl
references_long at (x ∷ xs) = ap suc (references_long (at + 4 * text_words x) xs)

-- a body that has a unit has an entry in front of the new ones
no_entry : (xs : List Body) (j at : ℕ) → slice_get (map (λ (x : Body). 0) xs) j ≡ Some at → at ≡ 0
no_entry [] j at is = absurd (none-some at is)
no_entry (x ∷ xs) zero at is = sym (same_Some 0 at is)
no_entry (x ∷ xs) (suc j) at is = no_entry xs j at is

front_entry : (es : List ℕ) (xs : List Body) (j at : ℕ) → slice_get (es ++ map (λ (x : Body). 0) xs) j ≡ Some at → at ≢ 0 → slice_get es j ≡ Some at
front_entry [] xs j at is some = absurd (some (no_entry xs j at is))
front_entry (y ∷ es) xs zero at is some = is
front_entry (y ∷ es) xs (suc j) at is some = front_entry es xs j at is some

-- a body names objects among more
named_more : (few many : ℕ) (node : Node) → few ≤ many → NamesObject few node → NamesObject many node
named_more few many (nodes.Str o) le is = omega (arith, is)
named_more few many (nodes.Int i) le is = tt
named_more few many (nodes.BlockLit b) le is = tt
named_more few many nodes.SelfRef le is = tt
named_more few many nodes.Nil le is = tt
named_more few many (nodes.Read up slot) le is = tt
named_more few many (nodes.Store up slot) le is = tt
named_more few many (nodes.Send sel) le is = tt
named_more few many (nodes.SelfSend sel) le is = tt
named_more few many (nodes.Resend sel) le is = tt
named_more few many (nodes.Directed parent sel) le is = tt
named_more few many (nodes.Prim name args implied handler) le is = tt
named_more few many nodes.Drop le is = tt
named_more few many nodes.Restart le is = tt
named_more few many nodes.Return le is = tt
named_more few many nodes.NonLocal le is = tt
named_more few many nodes.End le is = tt

held_more : (few many : ℕ) (d : Datum) → few ≤ many → HoldsObject few d → HoldsObject many d
held_more few many (datum.Integer i) le is = tt
held_more few many (datum.Object o) le is = omega (arith, is)
held_more few many datum.Nil le is = tt

runnable_more : (few many : ℕ) (x : Body) → few ≤ many → IsRunnable few x → IsRunnable many x
runnable_more few many x le r = record {
  takes = r.takes;
  room = r.room;
  ends = r.ends;
  translates = r.translates;
  names = λ n node is. named_more few many node le (r.names n node is);
  holds = λ k y is. held_more few many y.initial le (r.holds k y is);
}

module _ (h : Host) (e : Edit) (memory : Words) (g : Ground h e memory) where
  abbrev pub to : Host
  to = with_edit e memory h

  -- Bodies.

  pub same_body : (b : ℕ) → HasBody h.bodies b → body_in to.bodies b ≡ body_in h.bodies b
  same_body b has = old_body h.bodies e.bodies b has

  abbrev more : List ℕ
  more = e.since ++ text_references (h.machine.regs 6) e.text.strings

  objects_long : length to.references.objects ≡ h.next + length e.text.strings
  objects_long =
      omega (
        arith,
        g.all,
        references_long (h.machine.regs 6) e.text.strings,
        length-append h.references.objects more,
        length-append e.since (text_references (h.machine.regs 6) e.text.strings),
      )

  more_objects : length h.references.objects ≤ length to.references.objects
  more_objects = omega (arith, length-append h.references.objects more)

  runs_by : (b j : ℕ) → b - 1 ≡ j → IsRunnable (length to.references.objects) (unwrap_or (slice_get to.bodies j) no_body)
  runs_by b j is = elim (cases_lt j (length h.bodies)) [
    | inl lt ↦
        subst (λ (o : Option Body). IsRunnable (length to.references.objects) (unwrap_or o no_body)) (sym (slice_front h.bodies e.bodies j lt))
        (runnable_more (length h.references.objects) (length to.references.objects) (unwrap_or (slice_get h.bodies j) no_body) more_objects
        (subst (λ (k : ℕ). IsRunnable (length h.references.objects) (unwrap_or (slice_get h.bodies k) no_body)) is (g.run b)))
    | inr ge ↦
        let place : length h.bodies + (j - length h.bodies) ≡ j = omega arith in
        subst (λ (k : ℕ). IsRunnable (length to.references.objects) (unwrap_or (slice_get to.bodies k) no_body)) place
        (subst (λ (o : Option Body). IsRunnable (length to.references.objects) (unwrap_or o no_body)) (sym (slice_behind h.bodies e.bodies (length h.bodies) (j - length h.bodies) refl)) (behind (j - length h.bodies) (slice_get e.bodies (j - length h.bodies)) refl ge))
  ]
    where
      behind : (k : ℕ) (o : Option Body) → slice_get e.bodies k ≡ o → length h.bodies ≤ j → IsRunnable (length to.references.objects) (unwrap_or o no_body)
      behind k (Some x) at ge = subst (λ (n : ℕ). IsRunnable n x) (sym objects_long) (g.new k x at)
      behind k None at ge =
          let none : slice_get h.bodies (b - 1) ≡ None = ap (slice_get h.bodies) is ∙ past h.bodies j ge in
          runnable_more (length h.references.objects) (length to.references.objects) no_body more_objects (subst (λ (o : Option Body). IsRunnable (length h.references.objects) (unwrap_or o no_body)) none (g.run b))
        where
          past : (xs : List Body) (i : ℕ) → length xs ≤ i → slice_get xs i ≡ None
          past [] i le = refl
          past (y ∷ ys) zero le = absurd (omega (arith, le))
          past (y ∷ ys) (suc i) le = past ys i (omega (arith, le))

  pub all_run : AllRun to
  all_run b = runs_by b (b - 1) refl

  -- Units.

  node_known : (b : ℕ) (node : Node) → NamesObject (length h.references.objects) node → Names h.bodies b node → SameNode h.references to.references node
  node_known b (nodes.Str o) there fits = get_or_append_left h.references.objects more 0 o there
  node_known b (nodes.BlockLit c) there fits =
      ap numbered (get_or_append_left h.references.blocks _ 0 (c.0 - 1) (omega (arith, fits.0.0, fits.0.1, g.maps_of)))
  node_known b (nodes.Int i) there fits = tt
  node_known b nodes.SelfRef there fits = tt
  node_known b nodes.Nil there fits = tt
  node_known b (nodes.Read up slot) there fits = tt
  node_known b (nodes.Store up slot) there fits = tt
  node_known b (nodes.Send sel) there fits = tt
  node_known b (nodes.SelfSend sel) there fits = tt
  node_known b (nodes.Resend sel) there fits = tt
  node_known b (nodes.Directed parent sel) there fits = tt
  node_known b (nodes.Prim name args implied handler) there fits = tt
  node_known b nodes.Drop there fits = tt
  node_known b nodes.Restart there fits = tt
  node_known b nodes.Return there fits = tt
  node_known b nodes.NonLocal there fits = tt
  node_known b nodes.End there fits = tt

  datum_known : (d : Datum) → HoldsObject (length h.references.objects) d → datum_word to.references d ≡ datum_word h.references d
  datum_known (datum.Integer i) there = refl
  datum_known (datum.Object o) there = get_or_append_left h.references.objects more 0 o there
  datum_known datum.Nil there = refl

  same_words : (b : ℕ) → HasBody h.bodies b → SameWords h.references to.references (body_in h.bodies b)
  same_words b has =
      let x = body_in h.bodies b in
      record {
        nil = refl;
        contexts = refl;
        nodes_same = λ n node is.
            let lt : n < length x.nodes = slice_get_within x.nodes n node is in
            node_known b node ((g.run b).names n node is) (subst (λ (y : Node). Names h.bodies b y) (get_or_from_slice_get x.nodes n node nodes.End is) ((g.fit b has).names n lt));
        initials = λ k y is. datum_known y.initial ((g.run b).holds k y is);
      }

  code_same : (b : ℕ) → HasBody h.bodies b → unit_code to.references (body_in to.bodies b) ≡ unit_code h.references (body_in h.bodies b)
  code_same b has = ap (unit_code to.references) (same_body b has) ∙ unit_same h.references to.references (body_in h.bodies b) (same_words b has)

  all_points_same : (b : ℕ) → HasBody h.bodies b → unit_points to.references b (body_in to.bodies b) ≡ unit_points h.references b (body_in h.bodies b)
  all_points_same b has = ap (unit_points to.references b) (same_body b has) ∙ points_same h.references to.references (body_in h.bodies b) (same_words b has) b

  place_same : (b n : ℕ) → HasBody h.bodies b → node_offset to.references (body_in to.bodies b) n ≡ node_offset h.references (body_in h.bodies b) n
  place_same b n has = ap (λ (x : Body). node_offset to.references x n) (same_body b has) ∙ offset_same h.references to.references (body_in h.bodies b) (same_words b has) n

  pub unit_in : (b at : ℕ) → HasUnit h b at → HasUnit to b at
  unit_in b at u =
      let has : HasBody h.bodies b = (u.given, u.known) in
      let code = code_same b has in
      let words = unit_code h.references (body_in h.bodies b) in
      record {
        given = u.given;
        known = omega (arith, u.known, length-append h.bodies e.bodies);
        entry = got_left h.entries (map (λ (x : Body). 0) e.bodies) (b - 1) at u.entry;
        from = u.from;
        region = subst (λ (c : List Insn). IsCodeFrom at (length c)) (sym code) u.region;
        code = subst (λ (c : List Insn). At memory at c) (sym code) (at_same words h.machine.memory memory at (λ a low. g.outside a (inl (omega (arith, low, u.region.to)))) u.code);
        points = λ j low. u.points j (subst (λ (c : List Insn). j < length c) code low) ∙ ap (λ (ps : List Point). slice_get ps j) (sym (all_points_same b has));
      }

  pub units_in : ((b at : ℕ) → 0 < b → slice_get h.entries (b - 1) ≡ Some at → at ≢ 0 → HasUnit h b at) → (b at : ℕ) → 0 < b → slice_get to.entries (b - 1) ≡ Some at → at ≢ 0 → HasUnit to b at
  units_in units b at given is some = unit_in b at (units b at given (front_entry h.entries e.bodies (b - 1) at is some) some)

  -- Frames.

  abbrev body_has : (b at : ℕ) → HasUnit h b at → HasBody h.bodies b
  body_has b at u = (u.given, u.known)

  pub poll_in : (pc b n : ℕ) → IsPoll h pc b n → IsPoll to pc b n
  poll_in pc b n p =
      let has = body_has b p.at p.unit in
      record {
        at = p.at;
        unit = unit_in b p.at p.unit;
        inside = subst (λ (x : Body). n < length x.nodes) (sym (same_body b has)) p.inside;
        address = p.address ∙ ap (λ (k : ℕ). p.at + 4 * k) (sym (place_same b n has));
      }

  in_poll_in : (pc b n : ℕ) → IsInPoll h pc b n → IsInPoll to pc b n
  in_poll_in pc b n p =
      let has = body_has b p.at p.unit in
      record {
        at = p.at;
        word = p.word;
        unit = unit_in b p.at p.unit;
        inside = subst (λ (x : Body). n < length x.nodes) (sym (same_body b has)) p.inside;
        within = p.within;
        address = p.address ∙ ap (λ (k : ℕ). p.at + 4 * (k + p.word)) (sym (place_same b n has));
      }

  behind_in : (pc b n : ℕ) (node : Node) → IsBehindCall h pc b n node → IsBehindCall to pc b n node
  behind_in pc b n node k =
      let has = body_has b k.at k.unit in
      record {
        at = k.at;
        unit = unit_in b k.at k.unit;
        node_is = ap (λ (x : Body). slice_get x.nodes n) (same_body b has) ∙ k.node_is;
        call = k.call;
        address = k.address ∙ ap (λ (m : ℕ). k.at + 4 * m) (sym (place_same b (n + 1) has));
      }

  pub roomy_in : (b sp fp : ℕ) → HasBody h.bodies b → IsRoomy h b sp fp → IsRoomy to b sp fp
  roomy_in b sp fp has r = record {
    ends = r.ends ∙ ap (λ (x : Body). sp + 4 * frame_words x) (sym (same_body b has));
    place = subst (λ (x : Body). HasFrame sp (frame_words x)) (sym (same_body b has)) r.place;
  }

  pub caller_in : (pc sp fp : ℕ) → IsCaller h pc sp fp → IsCaller to pc sp fp
  caller_in pc sp fp k = record {
    body = k.body;
    number = k.number;
    node = k.node;
    call = behind_in pc k.body k.number k.node k.call;
    room = roomy_in k.body sp fp (body_has k.body k.call.at k.call.unit) k.room;
  }

  pub held_in : (pc sp fp : ℕ) → IsHeld h pc sp fp → IsHeld to pc sp fp
  held_in pc sp fp (Calls k) = Calls (caller_in pc sp fp k)
  held_in pc sp fp (Polls b n p run room) = Polls b n (in_poll_in pc b n p) (all_run b) (roomy_in b sp fp (body_has b p.at p.unit) room)

  caller_told : (pc sp fp : ℕ) → IsCaller h pc sp fp → descriptor_at to pc ≡ descriptor_at h pc
  caller_told pc sp fp k =
      let b = k.body in
      let n = k.number in
      call_descriptor to pc b n k.node (behind_in pc b n k.node k.call)
      ∙ ap (λ (x : Body). plain_descriptor b n (frame_locals x) (depth x.nodes n - taken k.node)) (same_body b (body_has b k.call.at k.call.unit))
      ∙ sym (call_descriptor h pc b n k.node k.call)

  pub held_told : (pc sp fp : ℕ) → IsHeld h pc sp fp → descriptor_at to pc ≡ descriptor_at h pc
  held_told pc sp fp (Calls k) = caller_told pc sp fp k
  held_told pc sp fp (Polls b n p run room) =
      let x = body_in h.bodies b in
      let has = body_has b p.at p.unit in
      let node = get_or x.nodes n nodes.End in
      let there : slice_get x.nodes n ≡ Some node = slice_get-get_or x.nodes n nodes.End p.inside in
      in_poll_descriptor to pc b n node (in_poll_in pc b n p) (ap (λ (y : Body). slice_get y.nodes n) (same_body b has) ∙ there)
      ∙ ap (λ (y : Body). plain_descriptor b n (frame_locals y) (depth y.nodes n)) (same_body b has)
      ∙ sym (in_poll_descriptor h pc b n node p there)

  -- words from the control region on are the same
  pub above : (b : ℕ) → 0x30000000 ≤ b → word_at memory b ≡ word_at h.machine.memory b
  above b high = g.outside b (inr (omega (arith, high)))

  pub high_same : (from end : ℕ) → 0x40000000 ≤ from → SameBetween from end h.machine.memory memory
  high_same from end high b low below = above b (omega (arith, low, high))

  -- frames of a stack show the same, and are laid
  pub record Kept (entry n sp pc : ℕ) (window : Window) (held : List Window) : Type 0 where
    pub shows : activations (descriptor_at to) memory n sp window pc held ≡ activations (descriptor_at h) h.machine.memory n sp window pc held
    pub laid : AreLaid (IsHeld to) entry ending_stub memory n sp window pc held

  pub kept_in : (entry n sp pc : ℕ) (window : Window) (held : List Window) → 0x40000000 ≤ sp → AreLaid (IsHeld h) entry ending_stub h.machine.memory n sp window pc held → Kept entry n sp pc window held
  kept_in entry n sp pc window held high laid =
      let r = rests (descriptor_at h) (IsHeld h) entry ending_stub h.machine.memory memory n sp window pc held (held_have_room h g.run) laid (high_same sp (entry + 64) high) in
      record {
        shows = shown_as (descriptor_at h) (descriptor_at to) (IsHeld h) entry ending_stub memory n sp window pc held held_told r.1 ∙ r.0;
        laid = laid_as (IsHeld h) (IsHeld to) entry ending_stub memory n sp window pc held held_in r.1;
      }

  pub callers_in : (entry n sp pc : ℕ) (window : Window) (held : List Window) → 0x40000000 ≤ sp → AreLaid (IsCaller h) entry ending_stub h.machine.memory n sp window pc held → AreLaid (IsCaller to) entry ending_stub memory n sp window pc held
  callers_in entry n sp pc window held high laid =
      let r = rests (descriptor_at h) (IsCaller h) entry ending_stub h.machine.memory memory n sp window pc held (callers_have_room h g.run) laid (high_same sp (entry + 64) high) in
      laid_as (IsCaller h) (IsCaller to) entry ending_stub memory n sp window pc held caller_in r.1

  pub saved_in : (at : ℕ) → 0x40000000 ≤ at → saved_at memory at ≡ saved_at h.machine.memory at
  saved_in at high = saved_same h.machine.memory memory at (high_same at (at + 64) high)
