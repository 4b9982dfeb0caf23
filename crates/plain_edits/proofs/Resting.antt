-- The session rests again for the state that an accepted edit comes to.
use Rattle.std.proofs.Common.{◌≡◌, ℕ, zero, suc, ◌+◌, ◌-◌, ◌<◌, refl, ◌∙◌, ap, sym, subst, arith, inl, inr, List, [], ◌∷◌, ◌++◌, length, map, length-append}
use Rattle.std.specs.Prelude.{Option, Some, None, slice_get, slice_index, unwrap_or}
use Rattle.std.proofs.lemmas.Bool.{cases_lt}
use Rattle.std.proofs.lemmas.List.{get_or_append_left, get_or-append-add, length-map}
use Rattle.std.proofs.lemmas.Option.{same_Some, none-some}
use Rattle.self_terms.specs.declared.bodies.Body.{Body}
use Rattle.object_maps.specs.Layout.{map_at}
use Rattle.object_maps.specs.Slots.{Slots, slots_in, slot_named as kind_named}
use Rattle.source_model.specs.Formed.{IsWellFormed}
use Rattle.source_model.specs.Names.{number_of, evaluator}
use Rattle.source_model.specs.Soundness.{body_in, HasBody, IsFit}
use Rattle.source_model.specs.State.{State}
use Rattle.source_model.proofs.MoreBodies.{old_body, no_body}
use Rattle.sparc_store.specs.Words.{Words}
use Rattle.heap_cells.proofs.Numbered.{got_if}
use Rattle.plain_runs.specs.Host.{Host}
use Rattle.plain_runs.proofs.Located.{slice_behind}
use Rattle.plain_steps.specs.Paying.{IsBlocksMap, HasMaps}
use Rattle.plain_steps.specs.Steps.{StandsFor}
use Rattle.plain_stretches.specs.Stretches.{AreFit}
use Rattle.plain_turns.specs.Resting.{Rests}
use Rattle.plain_turns.specs.Rooms.{HasRoom}
use Rattle.world_blocks.specs.Sessions.{block_map, own_block_map, block_maps, own_number, number_behind, numbers_from}
use Rattle.plain_edits.specs.Heaps.{text_references}
use Rattle.plain_edits.specs.Edits.{Edit, edited_map, with_edit}
use Rattle.plain_edits.specs.Resting.{edited_by, IsGiven, paid_from, HasRoomFor, HasEdited, EditsRest}
use Rattle.plain_edits.proofs.Coming.{edits_form}
use Rattle.plain_edits.proofs.Grounded.{is_heap, no_zero}
use Rattle.plain_edits.proofs.Mapped.{in_front, behind}
use Rattle.plain_edits.proofs.Standing.{edits_stand, edits_pay_anew}

-- The map of a body's blocks stands where its number says.
record IsAt (names : List (List ℕ)) (traits : ℕ) (b next : ℕ) (xs : List Body) (k : ℕ) (x : Body) : Type 0 where
  at : ℕ
  number : slice_index (numbers_from next xs) k ≡ next + at
  within : at < length (block_maps names traits b xs)
  is : slots_in (block_maps names traits b xs) at ≡ block_map names traits (b + k) x

module _ (names : List (List ℕ)) (traits : ℕ) where
  abbrev maps_with : ℕ → Body → List Body → Option ℕ → List Slots
  maps_with b y xs o = own_block_map names traits b y o ++ block_maps names traits (b + 1) xs

  at_first : (b next : ℕ) (x : Body) (xs : List Body) (outer : ℕ) → x.outer ≡ Some outer → IsAt names traits b next (x ∷ xs) 0 x
  at_first b next x xs outer e = record {
    at = 0;
    number = ap (own_number next) e ∙ omega arith;
    within = subst (λ (o : Option ℕ). 0 < length (maps_with b x xs o)) (sym e) (omega arith);
    is = ap (λ (o : Option ℕ). slots_in (maps_with b x xs o) 0) e ∙ ap (λ (n : ℕ). block_map names traits n x) (let same : b ≡ b + 0 = omega arith in same);
  }

  at_next : (b next : ℕ) (y : Body) (xs : List Body) (k : ℕ) (x : Body) (o : Option ℕ) → y.outer ≡ o → IsAt names traits (b + 1) (number_behind next o) xs k x → IsAt names traits b next (y ∷ xs) (suc k) x
  at_next b next y xs k x None e r = record {
    at = r.at;
    number = ap (λ (o : Option ℕ). slice_index (numbers_from (number_behind next o) xs) k) e ∙ r.number;
    within = subst (λ (o : Option ℕ). r.at < length (maps_with b y xs o)) (sym e) r.within;
    is = ap (λ (o : Option ℕ). slots_in (maps_with b y xs o) r.at) e ∙ r.is ∙ ap (λ (n : ℕ). block_map names traits n x) (let same : b + 1 + k ≡ b + suc k = omega arith in same);
  }
  at_next b next y xs k x (Some around) e r = record {
    at = suc r.at;
    number = ap (λ (o : Option ℕ). slice_index (numbers_from (number_behind next o) xs) k) e ∙ r.number ∙ omega arith;
    within = subst (λ (o : Option ℕ). suc r.at < length (maps_with b y xs o)) (sym e) (let lt = r.within in omega arith);
    is = ap (λ (o : Option ℕ). slots_in (maps_with b y xs o) (suc r.at)) e ∙ r.is ∙ ap (λ (n : ℕ). block_map names traits n x) (let same : b + 1 + k ≡ b + suc k = omega arith in same);
  }

  is_at : (b next : ℕ) (xs : List Body) (k : ℕ) (x : Body) (outer : ℕ) → slice_get xs k ≡ Some x → x.outer ≡ Some outer → IsAt names traits b next xs k x
  is_at b next [] k x outer there is = absurd (none-some x there)
  is_at b next (y ∷ xs) zero x outer there is =
      let same = same_Some y x there in
      subst (λ (q : Body). IsAt names traits b next (y ∷ xs) 0 q) same (at_first b next y xs outer (ap (λ (q : Body). q.outer) same ∙ is))
  is_at b next (y ∷ xs) (suc k) x outer there is = at_next b next y xs k x y.outer refl (is_at (b + 1) (number_behind next y.outer) xs k x outer there is)

module _ (h : Host) (s : State) (path : List (List ℕ)) (e : Edit) (o : ℕ) (memory : Words) (r : Rests h s) (x : IsGiven r.sense h s path e o memory) (room : HasRoomFor h e memory) where
  abbrev to : Host
  to = with_edit e memory h

  stands : StandsFor r.sense h s
  stands = r.sound.stands

  done : HasEdited r.sense h s e o memory
  done = edits_stand r.sense h s path e o memory stands r.sound.hosted r.sound.runs r.parks r.formed x

  formed : IsWellFormed (edited_by e o s)
  formed = edits_form s path e o x.accepted r.formed

  free : kind_named 0 (slots_in h.maps (map_at h.machine.memory e.word)) ≡ None
  free = no_zero r.sense h s path e o memory stands x r.formed

  abbrev blocks : List Slots
  blocks = block_maps e.names e.traits (length h.bodies + 1) e.bodies

  many : length to.maps ≡ length h.maps + suc (length blocks)
  many = length-append h.maps (edited_map e h ∷ blocks)

  -- the maps of blocks
  old_blocks : (b outer : ℕ) → HasBody h.bodies b → (body_in to.bodies b).outer ≡ Some outer → IsBlocksMap to.maps b (slice_index to.references.blocks (b - 1))
  old_blocks b outer has is =
      let map = slice_index h.references.blocks (b - 1) in
      let was = r.ready.maps.blocks b outer has (ap (λ (q : Body). q.outer) (sym (old_body h.bodies e.bodies b has)) ∙ is) in
      let same : slice_index to.references.blocks (b - 1) ≡ map = get_or_append_left h.references.blocks (numbers_from (length h.maps + 1) e.bodies) 0 (b - 1) (omega (arith, has.0, has.1, x.knows.numbered)) in
      subst (λ (n : ℕ). IsBlocksMap to.maps b n) (sym same) (record {
        there = omega (arith, was.there, many);
        told = λ context receiver. (let t = was.told context receiver in (t.0, record { evaluator = t.1.evaluator; traits = t.1.traits; are = in_front h e memory free map was.there ∙ t.1.are }));
      })

  new_blocks : (b outer k : ℕ) → b ≡ length h.bodies + 1 + k → k < length e.bodies → (body_in to.bodies b).outer ≡ Some outer → IsBlocksMap to.maps b (slice_index to.references.blocks (b - 1))
  new_blocks b outer k number lt is =
      let got = got_if e.bodies k lt in
      let y = got.0 in
      let place : b - 1 ≡ length h.bodies + k = omega (arith, number) in
      let body : body_in to.bodies b ≡ y = ap (λ (q : Option Body). unwrap_or q no_body) (ap (slice_get to.bodies) place ∙ slice_behind h.bodies e.bodies (length h.bodies) k refl ∙ got.1) in
      let a = is_at e.names e.traits (length h.bodies + 1) (length h.maps + 1) e.bodies k y outer got.1 (ap (λ (q : Body). q.outer) (sym body) ∙ is) in
      let numbers = numbers_from (length h.maps + 1) e.bodies in
      let behind_old : b - 1 ≡ length h.references.blocks + k = omega (arith, number, x.knows.numbered) in
      let map_is : slice_index to.references.blocks (b - 1) ≡ length h.maps + suc a.at = ap (slice_index to.references.blocks) behind_old ∙ get_or-append-add h.references.blocks numbers k 0 ∙ a.number ∙ omega arith in
      let slots : slots_in to.maps (length h.maps + suc a.at) ≡ block_map e.names e.traits b y = behind h e memory free (suc a.at) ∙ a.is ∙ ap (λ (n : ℕ). block_map e.names e.traits n y) (sym number) in
      subst (λ (n : ℕ). IsBlocksMap to.maps b n) (sym map_is) (record {
        there = omega (arith, a.within, many);
        told = λ context receiver. (let three = (is_heap r.sense h s path e o memory stands x).kinds in omega arith, record { evaluator = number_of e.names (evaluator (length y.arguments)); traits = e.traits; are = slots });
      })

  blocks_in : (b outer : ℕ) → HasBody to.bodies b → (body_in to.bodies b).outer ≡ Some outer → IsBlocksMap to.maps b (slice_index to.references.blocks (b - 1))
  blocks_in b outer has is = elim (cases_lt (b - 1) (length h.bodies)) [
    | inl lt ↦ old_blocks b outer (has.0, omega (arith, lt, has.0)) is
    | inr ge ↦ new_blocks b outer (b - 1 - length h.bodies) (omega (arith, ge, has.0)) (omega (arith, ge, has.0, has.1, length-append h.bodies e.bodies)) is
  ]

  maps_in : HasMaps to
  maps_in = record { few = room.maps; bodies = room.bodies; contexts = omega (arith, r.ready.maps.contexts, many); blocks = blocks_in }

  room_in : HasRoom to
  room_in = record {
    each = omega (arith, r.ready.room.each, length-append h.entries (map (λ (y : Body). 0) e.bodies), length-append h.bodies e.bodies, length-map {B = ℕ} e.bodies (λ (y : Body). 0));
    left = room.code;
    lobby = omega (arith, r.ready.room.lobby, length-append h.references.objects (e.since ++ text_references (h.machine.regs 6) e.text.strings));
  }

  fit_in : AreFit to
  fit_in = subst (λ (bs : List Body). (n : ℕ) → HasBody bs n → IsFit bs n) (sym done.stands.bodies) formed.1.well.bodies

  pub rests : Rests to (edited_by e o s)
  rests = record {
    sense = done.sense;
    sound = record { hosted = done.hosted; runs = done.all; current = r.sound.current; stands = done.stands };
    parks = done.parks;
    formed = formed;
    ready = record { fit = fit_in; room = room_in; maps = maps_in };
    start = paid_from h e;
    paid = edits_pay_anew r.sense h s path e o r.start memory stands r.formed x room.heap r.paid;
  }

pub edits_rest : EditsRest
edits_rest h s path e o memory r x room =
    let d = edits_stand r.sense h s path e o memory r.sound.stands r.sound.hosted r.sound.runs r.parks r.formed x in
    record { rests = rests h s path e o memory r x room; knows = d.knows }
