use Rattle.std.proofs.Common.{◌++◌, ◌∷◌, [], length, sym, ap, ◌∙◌, refl, arith, length-append}
use Rattle.slot_lookup.proofs.Frames.{work_again, work_first, work_down}
use Rattle.slot_lookup.proofs.Marks.{unmarked}
use Rattle.slot_lookup.proofs.Steps.{begin, done, other, again, met_first, met_second, went_down, trail_room, stack_room, marked_numbered, marked_covers, numbered, first_is_object, value_here, value_next, word_here, number_room}
use Rattle.slot_lookup.proofs.walk.walk_from.Goals as goal

pub loop-x-init : goal.loop-x-init
loop-x-init c =
    record {
      under = begin c.args.maps.now c.args.mem.now c.args.name.0 c.args.start c.args.skip (length c.args.seen.now) c.requires.sound.0 c.requires.sound.1.0 c.args.seen.now c.keep_frame.new.stack.items c.args.trail.now.items c.requires.unseen c.requires.sound.1.1 refl c.requires.start c.requires.skip
          (c.keep_frame.ensures.items ∙ ap (λ z. z ++ (c.args.start, 0) ∷ []) c.requires.stack) c.requires.trail;
      deep = omega arith;
      long = omega arith;
    }

pub next_at-requires : goal.next_at-requires
next_at-requires c =
    value_here c.args.maps.now c.args.mem.now c.args.name.0 c.args.start c.args.skip (length c.args.seen.now) c.loop-x.seen c.loop-x.stack.items c.pop.new.self.items c.loop-x.trail.items c.loop-x.first c.in-Some.x c.in-Some.at c.loop-x.invariant.under c.in-Some.ensures.items

pub number_of-number-requires : goal.number_of-number-requires
number_of-number-requires c =
    word_here c.args.maps.now c.args.mem.now c.args.name.0 c.args.start c.args.skip (length c.args.seen.now) c.loop-x.seen c.loop-x.stack.items c.pop.new.self.items c.loop-x.trail.items c.loop-x.first c.in-Some.x c.in-Some.at c.loop-x.invariant.under c.in-Some.ensures.items c.in-Parent.p 0 c.in-Parent.ensures

pub is_seen-requires : goal.is_seen-requires
is_seen-requires c =
    (rw c.number_of-number.ensures (number_room c.args.maps.now c.args.mem.now c.args.name.0 c.args.start c.args.skip (length c.args.seen.now) c.loop-x.seen c.loop-x.stack.items c.pop.new.self.items c.loop-x.trail.items c.loop-x.first c.in-Some.x c.in-Some.at c.loop-x.invariant.under c.in-Some.ensures.items c.in-Parent.p c.number_of-number.result c.in-Parent.ensures))

pub bounds-seen-number : goal.bounds-seen-number
bounds-seen-number c =
    (rw c.number_of-number.ensures (number_room c.args.maps.now c.args.mem.now c.args.name.0 c.args.start c.args.skip (length c.args.seen.now) c.loop-x.seen c.loop-x.stack.items c.pop.new.self.items c.loop-x.trail.items c.loop-x.first c.in-Some.x c.in-Some.at c.loop-x.invariant.under c.in-Some.ensures.items c.in-Parent.p c.number_of-number.result c.in-Parent.ensures))

pub keep-requires : goal.keep-requires
keep-requires c =
    let k = trail_room c.args.maps.now c.args.mem.now c.args.name.0 c.args.start c.args.skip (length c.args.seen.now) c.loop-x.seen c.loop-x.stack.items c.pop.new.self.items c.loop-x.trail.items c.loop-x.first c.in-Some.x c.in-Some.at c.loop-x.invariant.under c.in-Some.ensures.items c.in-Parent.p c.number_of-number.result c.in-Parent.ensures c.keep_frame-in-Parent.new.stack.items c.keep_frame-in-Parent.ensures.items c.number_of-number.ensures (sym c.is_seen.ensures ∙ c.if-is_seen.false) in omega (arith, k, c.loop-x.invariant.long, c.requires.long)

pub has_slot-requires : goal.has_slot-requires
has_slot-requires c =
    value_next c.args.maps.now c.args.mem.now c.args.name.0 c.args.start c.args.skip (length c.args.seen.now) c.loop-x.seen c.loop-x.stack.items c.pop.new.self.items c.loop-x.trail.items c.loop-x.first c.in-Some.x c.in-Some.at c.loop-x.invariant.under c.in-Some.ensures.items c.in-Parent.p c.number_of-number.result c.in-Parent.ensures

pub keep_frame-requires-then-not-has_slot : goal.keep_frame-requires-then-not-has_slot
keep_frame-requires-then-not-has_slot c =
    let u = went_down c.args.maps.now c.args.mem.now c.args.name.0 c.args.start c.args.skip (length c.args.seen.now) c.loop-x.seen c.loop-x.stack.items c.pop.new.self.items c.loop-x.trail.items c.loop-x.first c.in-Some.x c.in-Some.at c.loop-x.invariant.under c.in-Some.ensures.items c.in-Parent.p c.number_of-number.result c.in-Parent.ensures c.keep_frame-in-Parent.new.stack.items c.keep_frame-in-Parent.ensures.items c.number_of-number.ensures (sym c.is_seen.ensures ∙ c.if-is_seen.false) (c.keep_frame-in-Parent.new.stack.items ++ (c.in-Parent.p, 0) ∷ []) refl (sym c.has_slot.ensures ∙ c.if-not-has_slot.true) in
    let k = stack_room c.args.maps.now c.args.mem.now c.args.name.0 c.args.start c.args.skip (length c.args.seen.now) _ (c.keep_frame-in-Parent.new.stack.items ++ (c.in-Parent.p, 0) ∷ []) _ c.loop-x.first u in
    omega (arith, simp length-append at k, c.loop-x.invariant.deep, c.requires.deep, c.pop.ensures.capacity, c.keep_frame-in-Parent.ensures.capacity)

pub loop-x-preserved-then-is_seen : goal.loop-x-preserved-then-is_seen
loop-x-preserved-then-is_seen c =
    record {
      under = again c.args.maps.now c.args.mem.now c.args.name.0 c.args.start c.args.skip (length c.args.seen.now) c.loop-x.seen c.loop-x.stack.items c.pop.new.self.items c.loop-x.trail.items c.loop-x.first c.in-Some.x c.in-Some.at c.loop-x.invariant.under c.in-Some.ensures.items c.in-Parent.p c.number_of-number.result c.in-Parent.ensures c.keep_frame-in-Parent.new.stack.items c.keep_frame-in-Parent.ensures.items c.number_of-number.ensures (sym c.is_seen.ensures ∙ c.if-is_seen.true);
      deep = omega (arith, c.pop.ensures.capacity);
      long = c.loop-x.invariant.long;
    }

pub loop-x-preserved-then-not-has_slot : goal.loop-x-preserved-then-not-has_slot
loop-x-preserved-then-not-has_slot c =
    record {
      under = rw c.keep.ensures.items (went_down c.args.maps.now c.args.mem.now c.args.name.0 c.args.start c.args.skip (length c.args.seen.now) c.loop-x.seen c.loop-x.stack.items c.pop.new.self.items c.loop-x.trail.items c.loop-x.first c.in-Some.x c.in-Some.at c.loop-x.invariant.under c.in-Some.ensures.items c.in-Parent.p c.number_of-number.result c.in-Parent.ensures c.keep_frame-in-Parent.new.stack.items c.keep_frame-in-Parent.ensures.items c.number_of-number.ensures (sym c.is_seen.ensures ∙ c.if-is_seen.false) c.keep_frame-then-not-has_slot.new.stack.items c.keep_frame-then-not-has_slot.ensures.items (sym c.has_slot.ensures ∙ c.if-not-has_slot.true));
      deep = omega (arith, c.pop.ensures.capacity);
      long = omega arith;
    }

pub loop-x-preserved : goal.loop-x-preserved
loop-x-preserved c =
    record {
      under = rw c.keep.ensures.items (met_first c.args.maps.now c.args.mem.now c.args.name.0 c.args.start c.args.skip (length c.args.seen.now) c.loop-x.seen c.loop-x.stack.items c.pop.new.self.items c.loop-x.trail.items c.loop-x.first c.in-Some.x c.in-Some.at c.loop-x.invariant.under c.in-Some.ensures.items c.in-Parent.p c.number_of-number.result c.in-Parent.ensures c.keep_frame-in-Parent.new.stack.items c.keep_frame-in-Parent.ensures.items c.number_of-number.ensures (sym c.is_seen.ensures ∙ c.if-is_seen.false) (sym c.has_slot.ensures ∙ c.if-not-has_slot.false) c.in_default-first.is);
      deep = omega (arith, c.pop.ensures.capacity);
      long = omega arith;
    }

pub loop-x-preserved-in-Done : goal.loop-x-preserved-in-Done
loop-x-preserved-in-Done c =
    record {
      under = done c.args.maps.now c.args.mem.now c.args.name.0 c.args.start c.args.skip (length c.args.seen.now) c.loop-x.seen c.loop-x.stack.items c.pop.new.self.items c.loop-x.trail.items c.loop-x.first c.in-Some.x c.in-Some.at c.loop-x.invariant.under c.in-Some.ensures.items c.in-Done.ensures;
      deep = omega (arith, c.pop.ensures.capacity);
      long = c.loop-x.invariant.long;
    }

pub returns-in-Some-first-clause-met : goal.returns-in-Some-first-clause-met
returns-in-Some-first-clause-met c =
    met_second c.args.maps.now c.args.mem.now c.args.name.0 c.args.start c.args.skip (length c.args.seen.now) c.loop-x.seen c.loop-x.stack.items c.pop.new.self.items c.loop-x.trail.items c.loop-x.first c.in-Some.x c.in-Some.at c.loop-x.invariant.under c.in-Some.ensures.items c.in-Parent.p c.number_of-number.result c.in-Parent.ensures c.keep_frame-in-Parent.new.stack.items c.keep_frame-in-Parent.ensures.items c.number_of-number.ensures (sym c.is_seen.ensures ∙ c.if-is_seen.false) (sym c.has_slot.ensures ∙ c.if-not-has_slot.false) c.in-Some-first.h c.in-Some-first.is

pub returns-in-Some-first-clause-objects : goal.returns-in-Some-first-clause-objects
returns-in-Some-first-clause-objects c =
    ((first_is_object c.args.maps.now c.args.mem.now c.args.name.0 c.args.start c.args.skip (length c.args.seen.now) c.loop-x.seen c.loop-x.stack.items c.loop-x.trail.items c.loop-x.first c.loop-x.invariant.under c.in-Some-first.h c.in-Some-first.is).1, word_here c.args.maps.now c.args.mem.now c.args.name.0 c.args.start c.args.skip (length c.args.seen.now) c.loop-x.seen c.loop-x.stack.items c.pop.new.self.items c.loop-x.trail.items c.loop-x.first c.in-Some.x c.in-Some.at c.loop-x.invariant.under c.in-Some.ensures.items c.in-Parent.p c.number_of-number.result c.in-Parent.ensures)

pub returns-in-Some-first-clause-numbered : goal.returns-in-Some-first-clause-numbered
returns-in-Some-first-clause-numbered c =
    rw c.keep.ensures.items (marked_numbered c.args.maps.now c.args.mem.now c.args.name.0 c.args.start c.args.skip (length c.args.seen.now) c.loop-x.seen c.loop-x.stack.items c.pop.new.self.items c.loop-x.trail.items c.loop-x.first c.in-Some.x c.in-Some.at c.loop-x.invariant.under c.in-Some.ensures.items c.in-Parent.p c.number_of-number.result c.in-Parent.ensures c.keep_frame-in-Parent.new.stack.items c.keep_frame-in-Parent.ensures.items c.number_of-number.ensures (sym c.is_seen.ensures ∙ c.if-is_seen.false))

pub returns-in-Some-first-clause-covers : goal.returns-in-Some-first-clause-covers
returns-in-Some-first-clause-covers c =
    rw c.keep.ensures.items (marked_covers c.args.maps.now c.args.mem.now c.args.name.0 c.args.start c.args.skip (length c.args.seen.now) c.loop-x.seen c.loop-x.stack.items c.pop.new.self.items c.loop-x.trail.items c.loop-x.first c.in-Some.x c.in-Some.at c.loop-x.invariant.under c.in-Some.ensures.items c.in-Parent.p c.number_of-number.result c.in-Parent.ensures c.keep_frame-in-Parent.new.stack.items c.keep_frame-in-Parent.ensures.items c.number_of-number.ensures (sym c.is_seen.ensures ∙ c.if-is_seen.false))

pub loop-x-smaller-then-not-has_slot : goal.loop-x-smaller-then-not-has_slot
loop-x-smaller-then-not-has_slot c =
    work_down c.loop-x.seen c.loop-x.stack.items c.pop.new.self.items c.in-Some.x c.in-Some.at c.in-Some.ensures.items c.keep_frame-in-Parent.new.stack.items c.keep_frame-in-Parent.ensures.items (c.in-Parent.ensures.1) c.number_of-number.result (rw c.number_of-number.ensures (number_room c.args.maps.now c.args.mem.now c.args.name.0 c.args.start c.args.skip (length c.args.seen.now) c.loop-x.seen c.loop-x.stack.items c.pop.new.self.items c.loop-x.trail.items c.loop-x.first c.in-Some.x c.in-Some.at c.loop-x.invariant.under c.in-Some.ensures.items c.in-Parent.p c.number_of-number.result c.in-Parent.ensures)) (unmarked c.args.maps.now c.args.mem.now c.requires.sound.0 c.requires.sound.1.0 c.loop-x.seen c.args.skip c.in-Parent.p c.number_of-number.result (sym c.is_seen.ensures ∙ c.if-is_seen.false)) c.in-Parent.p c.keep_frame-then-not-has_slot.new.stack.items c.keep_frame-then-not-has_slot.ensures.items

pub loop-x-smaller : goal.loop-x-smaller
loop-x-smaller c =
    work_first c.loop-x.seen c.loop-x.stack.items c.pop.new.self.items c.in-Some.x c.in-Some.at c.in-Some.ensures.items c.keep_frame-in-Parent.new.stack.items c.keep_frame-in-Parent.ensures.items (c.in-Parent.ensures.1) c.number_of-number.result (rw c.number_of-number.ensures (number_room c.args.maps.now c.args.mem.now c.args.name.0 c.args.start c.args.skip (length c.args.seen.now) c.loop-x.seen c.loop-x.stack.items c.pop.new.self.items c.loop-x.trail.items c.loop-x.first c.in-Some.x c.in-Some.at c.loop-x.invariant.under c.in-Some.ensures.items c.in-Parent.p c.number_of-number.result c.in-Parent.ensures)) (unmarked c.args.maps.now c.args.mem.now c.requires.sound.0 c.requires.sound.1.0 c.loop-x.seen c.args.skip c.in-Parent.p c.number_of-number.result (sym c.is_seen.ensures ∙ c.if-is_seen.false))

pub loop-x-smaller-then-is_seen : goal.loop-x-smaller-then-is_seen
loop-x-smaller-then-is_seen c =
    work_again c.loop-x.seen c.loop-x.stack.items c.pop.new.self.items c.in-Some.x c.in-Some.at c.in-Some.ensures.items c.keep_frame-in-Parent.new.stack.items c.keep_frame-in-Parent.ensures.items (c.in-Parent.ensures.1)

pub returns-in-None-clause-numbered : goal.returns-in-None-clause-numbered
returns-in-None-clause-numbered c =
    numbered c.args.maps.now c.args.mem.now c.args.name.0 c.args.start c.args.skip (length c.args.seen.now) c.loop-x.seen c.loop-x.stack.items c.loop-x.trail.items c.loop-x.first c.loop-x.invariant.under

pub returns-in-Some-first-2-clause-numbered : goal.returns-in-Some-first-2-clause-numbered
returns-in-Some-first-2-clause-numbered c =
    numbered c.args.maps.now c.args.mem.now c.args.name.0 c.args.start c.args.skip (length c.args.seen.now) c.loop-x.seen c.loop-x.stack.items c.loop-x.trail.items c.loop-x.first c.loop-x.invariant.under

pub returns-in-Some-first-2-clause-objects : goal.returns-in-Some-first-2-clause-objects
returns-in-Some-first-2-clause-objects c =
    (first_is_object c.args.maps.now c.args.mem.now c.args.name.0 c.args.start c.args.skip (length c.args.seen.now) c.loop-x.seen c.loop-x.stack.items c.loop-x.trail.items c.loop-x.first c.loop-x.invariant.under c.in-Some-first-2.h c.in-Some-first-2.is).0

pub loop-x-preserved-in-Other : goal.loop-x-preserved-in-Other
loop-x-preserved-in-Other c =
    record {
      under = other c.args.maps.now c.args.mem.now c.args.name.0 c.args.start c.args.skip (length c.args.seen.now) c.loop-x.seen c.loop-x.stack.items c.pop.new.self.items c.loop-x.trail.items c.loop-x.first c.in-Some.x c.in-Some.at c.loop-x.invariant.under c.in-Some.ensures.items c.keep_frame-in-Other.new.stack.items c.keep_frame-in-Other.ensures.items (c.in-Other.ensures.2);
      deep = omega (arith, c.pop.ensures.capacity);
      long = c.loop-x.invariant.long;
    }
