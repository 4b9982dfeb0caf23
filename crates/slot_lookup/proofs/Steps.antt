-- The steps of the loop, over what its code knows.
use Rattle.std.proofs.Common.{◌≡◌, ℕ, suc, ◌+◌, ◌<◌, ◌≤◌, Bool, true, false, List, [], ◌∷◌, ◌++◌, inl, inr, sym, length, get_or, set, drop, arith, length-append}
use Rattle.std.proofs.Math.ListN.{length-set}
use Rattle.std.specs.Prelude.{Option, Some, None}
use Rattle.object_maps.specs.Slots.{Slots, parents_in}
use Rattle.object_maps.specs.Layout.{number_at}
use Rattle.object_maps.specs.Sound.{IsSound, IsValue}
use Rattle.sparc_store.specs.Words.{Words, HasWord}
use Rattle.source_model.specs.Lookup.{Among, Ambiguous}
use Rattle.slot_lookup.specs.Lookup.{has_at, slots_of}
use Rattle.slot_lookup.specs.Walk.{base_of, from_parents, seen_in, IsNext}
use Rattle.slot_lookup.specs.declared.slots.Next.TheVariants as next
use Rattle.slot_lookup.proofs.Holds.{is_in, Among-right}
use Rattle.slot_lookup.proofs.Going.{few, so_far, distinct_more}
use Rattle.slot_lookup.proofs.Marks.{turned, length-turned, is_value, number_within, place_among, object_at, seen_true, seen_false, Among-push, marked_push}
use Rattle.slot_lookup.proofs.Frames.{Walking, start_walk, stack_fits, value_there, done_step, other_step, again_step, first_step, second_step, down_step}

module _ (maps : List Slots) (mem : Words) (name start : ℕ) (skip : Option ℕ) (levels : ℕ) where
  pub record Under (marks : List Bool) (stack : List (ℕ × ℕ)) (trail : List ℕ) (first : Option ℕ) : Type 0 where
    pub objects : List ℕ
    pub sound : IsSound maps mem objects
    pub walking : Walking maps mem objects sound name start skip levels marks stack trail first

  pub begin : (objects : List ℕ) → IsSound maps mem objects → (marks : List Bool) (stack : List (ℕ × ℕ)) (trail : List ℕ) → ((n : ℕ) → get_or marks n false ≡ false) → length objects ≤ levels → length marks ≡ levels
      → IsValue maps mem start → ((word : ℕ) → skip ≡ Some word → (word ≡ start) × (has_at maps mem name word ≡ false))
      → stack ≡ (start, 0) ∷ [] → trail ≡ [] → Under marks stack trail None
  begin objects sound marks stack trail fresh room wide value skipped s t =
      record { objects = objects; sound = sound; walking = start_walk maps mem objects sound name start skip levels marks stack trail fresh room wide value skipped s t }

  module _ (marks : List Bool) (stack : List (ℕ × ℕ)) (trail : List ℕ) (first : Option ℕ) (u : Under marks stack trail first) where
    pub stack_room : length stack ≤ suc levels
    stack_room = stack_fits maps mem u.objects u.sound name start skip levels marks stack trail first u.walking

    pub numbered : (x : ℕ) → Among x trail → HasWord (x + 3) × (number_at mem x < length marks)
    numbered x a =
        let here = u.walking.marked.within x a in
        let o = object_at maps mem u.objects u.sound x here in
        (o.1.1.second, omega (arith, number_within maps mem u.objects u.sound x here, u.walking.marked.size))

    pub first_is_object : (h : ℕ) → first ≡ Some h → IsValue maps mem h × HasWord (h + 3)
    first_is_object h e =
        let here = u.walking.found h e in
        (is_value maps mem u.objects u.sound h here, (object_at maps mem u.objects u.sound h here).1.1.second)

  module _ (marks : List Bool) (trail : List ℕ) (first : Option ℕ) (u : Under marks [] trail first) where
    pub ended : so_far first ≡ from_parents maps mem levels start skip name
    ended = u.walking.going.answer

  module _ (marks : List Bool) (stack below : List (ℕ × ℕ)) (trail : List ℕ) (first : Option ℕ) (x place : ℕ)
      (u : Under marks stack trail first) (popped : stack ≡ below ++ (x, place) ∷ []) where
    pub value_here : IsValue maps mem x
    value_here = value_there maps mem u.objects u.sound name start skip levels marks stack below trail first x place u.walking popped

    pub done : parents_in (drop place (slots_of maps mem x)) ≡ [] → Under marks below trail first
    done e = record { objects = u.objects; sound = u.sound; walking = done_step maps mem u.objects u.sound name start skip levels marks stack below trail first x place u.walking popped e }

    pub other : (after : List (ℕ × ℕ)) → after ≡ below ++ (x, place + 1) ∷ [] → parents_in (drop place (slots_of maps mem x)) ≡ parents_in (drop (place + 1) (slots_of maps mem x)) → Under marks after trail first
    other after pushed e = record { objects = u.objects; sound = u.sound; walking = other_step maps mem u.objects u.sound name start skip levels marks stack below trail first x place u.walking popped after pushed e }

    module _ (p number : ℕ) (nx : IsNext (slots_of maps mem x) place (next.Parent p)) where
      pub here : Among p u.objects
      here = let r = u.sound.parent _ place nx.3.0 p nx.3.1 in place_among u.objects r.0 p r.1

      pub word_here : HasWord (p + 3)
      word_here = (object_at maps mem u.objects u.sound p here).1.1.second

      pub number_room : number_at mem p < length marks
      number_room = omega (arith, number_within maps mem u.objects u.sound p here, u.walking.marked.size)

      pub value_next : IsValue maps mem p
      value_next = is_value maps mem u.objects u.sound p here

      module _ (after : List (ℕ × ℕ)) (pushed : after ≡ below ++ (x, place + 1) ∷ []) (is : number ≡ number_at mem p) where
        pub again : seen_in marks skip p number ≡ true → Under marks after trail first
        again s = record {
          objects = u.objects;
          sound = u.sound;
          walking = again_step maps mem u.objects u.sound name start skip levels marks stack below trail first x place u.walking popped after pushed p nx.2
              (seen_true maps mem u.objects u.sound marks trail skip p here u.walking.marked (rw is at s));
        }

        module _ (s : seen_in marks skip p number ≡ false) where
          new : is_in (turned trail (base_of skip)) p ≡ false
          new = seen_false maps mem u.objects u.sound marks trail skip p here u.walking.marked (rw is at s)

          pub met_first : has_at maps mem name p ≡ true → first ≡ None → Under (set marks number true) after (trail ++ p ∷ []) (Some p)
          met_first holds none = rw is (record {
            objects = u.objects;
            sound = u.sound;
            walking = first_step maps mem u.objects u.sound name start skip levels marks stack below trail first x place u.walking popped after pushed p nx.2 here new holds none;
          })

          pub met_second : has_at maps mem name p ≡ true → (h : ℕ) → first ≡ Some h → Ambiguous h p ≡ from_parents maps mem levels start skip name
          met_second holds h e = sym (second_step maps mem u.objects u.sound name start skip levels marks stack below trail first x place u.walking popped after pushed p nx.2 here new holds h e)

          pub went_down : (deeper : List (ℕ × ℕ)) → deeper ≡ after ++ (p, 0) ∷ [] → has_at maps mem name p ≡ false → Under (set marks number true) deeper (trail ++ p ∷ []) first
          went_down deeper d bare = rw is (record {
            objects = u.objects;
            sound = u.sound;
            walking = down_step maps mem u.objects u.sound name start skip levels marks stack below trail first x place u.walking popped after pushed p nx.2 here new deeper d bare;
          })

          inside_more : (y : ℕ) → Among y (p ∷ turned trail (base_of skip)) → Among y (base_of skip ++ u.objects)
          inside_more y a = elim a [ inl e ↦ rw e (Among-right p (base_of skip) u.objects here) | inr old ↦ u.walking.going.inside y old ]

          pub trail_room : length trail < levels
          trail_room =
              let k = few (base_of skip ++ u.objects) (p ∷ turned trail (base_of skip)) (distinct_more p (turned trail (base_of skip)) new u.walking.going.apart) inside_more in
              let l = length-turned trail (base_of skip) in
              let m = length-append (base_of skip) u.objects in
              omega (arith, k, l, m, u.walking.marked.size, u.walking.wide)

          -- after the mark, whatever comes next
          pub marked_numbered : (y : ℕ) → Among y (trail ++ p ∷ []) → HasWord (y + 3) × (number_at mem y < length (set marks number true))
          marked_numbered y a = simp length-set (elim (Among-push y trail p a) [
            | inl old ↦ numbered marks stack trail first u y old
            | inr e ↦ rw e (word_here, number_room)
          ])

          pub marked_covers : (n : ℕ) → get_or (set marks number true) n false ≡ true → (y : ℕ) × (Among y (trail ++ p ∷ []) × (number_at mem y ≡ n))
          marked_covers n e = (marked_push maps mem u.objects u.sound marks trail p here u.walking.marked).covers n (rw is at e)
