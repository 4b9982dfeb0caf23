-- The host over an opened world rests for the state with which a session begins.
use Rattle.std.proofs.Common.{◌≡◌, refl, sym, ap, subst, ◌∙◌, ℕ, zero, suc, ◌+◌, ◌-◌, ◌<◌, ◌≤◌, ◌++◌, List, [], ◌∷◌, length, inr, arith}
use Rattle.std.specs.Prelude.{Option, None, Some, replicate, slice_get, ◌^◌}
use Rattle.std.proofs.lemmas.List.{length-replicate}
use Rattle.std.proofs.lemmas.List.Elements.{All-nil}
use Rattle.std.proofs.lemmas.Option.{slice_get-get_or}
use Rattle.self_terms.specs.declared.bodies.Body.{Body}
use Rattle.sparc_store.specs.Words.{Words, IsWithin}
use Rattle.source_model.specs.Formed.{IsWellFormed}
use Rattle.source_model.specs.State.{State}
use Rattle.source_model.specs.declared.objects.Thing.{Thing}
use Rattle.source_model.specs.declared.objects.Thing.TheVariants.{Plain as plain, Vector as vector, Text as string}
use Rattle.plain_runs.specs.Host.{Host, raw_of}
use Rattle.plain_runs.specs.Sound.{IsWindow, IsRunnable, IsHosted}
use Rattle.plain_begins.specs.Begins.{Idle}
use Rattle.plain_steps.specs.Steps.{NamesSums, StandsFor}
use Rattle.plain_steps.specs.Paying.{HasMaps, IsPaid}
use Rattle.plain_turns.specs.Resting.{Rests}
use Rattle.plain_host.specs.Opened.{opened_host, IsLoaded}
use Rattle.source_model.specs.Soundness.{body_in}
use Rattle.world_build.specs.Wholeness.{IsWhole}
use Rattle.world_heap.specs.Built.{IsModest}
use Rattle.world_heap.specs.Heaps.{places, heap_of}
use Rattle.world_heap.specs.Images.{Image}
use Rattle.world_heap.specs.Layout.{span_of}
use Rattle.world_heap.specs.Stands.{Stands, plains}
use Rattle.world_state.specs.Begun.{begun}
use Rattle.world_begins.specs.Fresh.{BeginsCore}
use Rattle.world_blocks.specs.Knowing.{HasBlockMaps}
use Rattle.world_blocks.specs.Sessions.{session_names, session_maps, block_traits, own_block_map, block_maps}
use Rattle.world_blocks.proofs.Known.{session_begins}
use Rattle.world_blocks.proofs.Mapped.{has_block_maps, how_many}
use Rattle.plain_opens.specs.Opens.{CanOpen, all_words}

-- nothing but 0 stands in a list of that
zero_there : (n k x : ℕ) → slice_get (replicate n 0) k ≡ Some x → x ≡ 0
zero_there zero k x e = cc
zero_there (suc n) zero x e = cc
zero_there (suc n) (suc k) x e = zero_there n k x e

-- How many maps there are: at most one for each object, and one for each body, which takes words.
plains_few : (xs : List Thing) → plains xs ≤ span_of xs
plains_few [] = omega arith
plains_few (plain slots ∷ xs) = let more = plains_few xs in omega arith
plains_few (vector items ∷ xs) = let more = plains_few xs in omega arith
plains_few (string text ∷ xs) = let more = plains_few xs in omega arith

own_few : (names : List (List ℕ)) (traits b : ℕ) (x : Body) (o : Option ℕ) (xs : List Body) → length (block_maps names traits (b + 1) xs) ≤ length xs → length (own_block_map names traits b x o ++ block_maps names traits (b + 1) xs) ≤ suc (length xs)
own_few names traits b x None xs le = omega arith
own_few names traits b x (Some outer) xs le = omega arith

blocks_few : (names : List (List ℕ)) (traits b : ℕ) (xs : List Body) → length (block_maps names traits b xs) ≤ length xs
blocks_few names traits b [] = omega arith
blocks_few names traits b (x ∷ xs) = own_few names traits b x x.outer xs (blocks_few names traits (b + 1) xs)

bodies_few : (xs : List Body) → length xs ≤ all_words xs
bodies_few [] = omega arith
bodies_few (x ∷ xs) = let more = bodies_few xs in omega arith

module _ (i : Image) (memory : Words) (advisors : ℕ) (stands : Stands i) (modest : IsModest i.world) (whole : IsWhole i.world) (loaded : IsLoaded i memory) (within : IsWithin memory) (can : CanOpen i.world)
    (formed : IsWellFormed (begun i.world (session_names i.world) advisors)) (sums : NamesSums (session_names i.world)) where
  abbrev h : Host
  h = opened_host i memory

  abbrev s : State
  s = begun i.world (session_names i.world) advisors

  begins : BeginsCore i (raw_of h) s
  begins = session_begins i memory (raw_of h) advisors stands whole loaded.heap (record { maps = refl; words = refl; heap = refl; threads = refl; current = refl; steps = refl; cost = refl })

  objects_long : length (places i.world).objects ≡ length i.world.things
  objects_long = sym (ap length begins.objects) ∙ begins.room

  stands_for : StandsFor begins.sense h s
  stands_for =
      let there = formed.1.world.0.nil in
      record {
        stands = begins.stands;
        core = begins.core;
        bodies = refl;
        objects = λ o v e. ap (λ (q : List ℕ). slice_get q o) begins.objects ∙ e;
        nil = ap (λ (q : List ℕ). slice_get q i.world.core.nil) begins.objects ∙ slice_get-get_or (places i.world).objects i.world.core.nil 0 (omega (arith, objects_long, there));
        sums = sums;
      }

  hosted : IsHosted h
  hosted = record {
    within = within;
    register_0 = refl;
    windows = All-nil IsWindow;
    units = λ b at given is stand. absurd (stand (zero_there (length i.world.bodies) (b - 1) at is));
    stub = loaded.stub;
    activities = omega arith;
    others = λ k sp pc count is ne. cc;
    parked = λ k sp pc count is ne. absurd (cc);
    goal = (let end = loaded.heap.is.laid.end in let top = end.within in let none = loaded.others 0x30000000 (λ e. absurd (omega (arith, e))) (λ e. absurd (omega (arith, e))) (inr (omega arith)) in omega (arith, none));
  }

  runs : (b : ℕ) → IsRunnable (length (places i.world).objects) (body_in i.world.bodies b)
  runs b = subst (λ (n : ℕ). IsRunnable n (body_in i.world.bodies b)) (sym objects_long) (can.runs b)

  block_maps_are : HasBlockMaps i (session_maps i)
  block_maps_are = has_block_maps i (let each = stands.each in omega arith)

  few_maps : length (session_maps i) < 2 ^ 30
  few_maps =
      let many = how_many i in
      let each = stands.each in
      let few = modest.few in
      let room = can.room in
      omega (arith, many, each, few, room, plains_few i.world.things, blocks_few (session_names i.world) (block_traits i.world) 1 i.world.bodies, bodies_few i.world.bodies)

  maps : HasMaps h
  maps = record {
    few = few_maps;
    bodies = (let room = can.room in omega (arith, room, bodies_few i.world.bodies));
    contexts = block_maps_are.contexts;
    blocks = λ b outer has is. let m = block_maps_are.blocks b outer has is in record { there = m.within; told = m.told };
  }

  -- the objects leave room for all that may be paid
  paid : IsPaid (heap_of i).top h
  paid = record {
    room = (let all = stands.all in let few = modest.few in omega arith);
    top = omega arith;
    left = (let left = loaded.left in omega arith);
  }

  pub opened_rests : Rests h s
  opened_rests = record {
    sense = begins.sense;
    sound = record { hosted = hosted; runs = runs; current = omega arith; stands = stands_for };
    parks = Idle (λ sp pc count e. cc);
    formed = formed;
    ready = record {
      fit = formed.1.well.bodies;
      room = record { each = length-replicate (length i.world.bodies) 0; left = (let room = can.room in omega (arith, room)); lobby = (let nil = formed.1.world.0.nil in omega (arith, objects_long)) };
      maps = maps;
    };
    start = (heap_of i).top;
    paid = paid;
  }
