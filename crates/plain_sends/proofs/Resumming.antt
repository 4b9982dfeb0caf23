-- The host's sums are no part of what holds of machine and units.
use Rattle.std.proofs.Common.{◌≡◌, ℕ, ◌+◌, refl, ◌∙◌, ap}
use Rattle.std.specs.Prelude.{List, [], ◌∷◌}
use Rattle.self_terms.specs.declared.nodes.Node.{Node}
use Rattle.sparc_store.specs.Windows.{saved_at, frame_before, but_first}
use Rattle.frame_walk.proofs.Resting.{laid_as}
use Rattle.plain_runs.specs.Host.{Host, thread_of, threads_from, descriptor_at}
use Rattle.plain_runs.specs.declared.status.Status.{Status}
use Rattle.plain_runs.specs.declared.status.Status.TheVariants.{Waiting, Answered, Failed}
use Rattle.plain_runs.specs.Units.{HasUnit}
use Rattle.plain_runs.specs.Sound.{IsCaller, IsHeld, Calls, Polls, RunsAt, IsHosted, entry_frame, ending_stub}
use Rattle.plain_runs.proofs.Taking.{take_up_as}

abbrev pub resummed : ℕ → ℕ → Host → Host
resummed steps cost h = record h { steps = steps; cost = cost }

unit_as : (steps cost : ℕ) (h : Host) (b at : ℕ) → HasUnit h b at → HasUnit (resummed steps cost h) b at
unit_as steps cost h b at u = record { given = u.given; known = u.known; entry = u.entry; from = u.from; region = u.region; code = u.code; points = u.points }

caller_as : (steps cost : ℕ) (h : Host) (pc sp fp : ℕ) → IsCaller h pc sp fp → IsCaller (resummed steps cost h) pc sp fp
caller_as steps cost h pc sp fp c = record {
  body = c.body;
  number = c.number;
  node = c.node;
  call = record { at = c.call.at; unit = unit_as steps cost h c.body c.call.at c.call.unit; node_is = c.call.node_is; call = c.call.call; address = c.call.address };
  room = record { ends = c.room.ends; place = c.room.place };
}

held_as : (steps cost : ℕ) (h : Host) (pc sp fp : ℕ) → IsHeld h pc sp fp → IsHeld (resummed steps cost h) pc sp fp
held_as steps cost h pc sp fp (Calls c) = Calls (caller_as steps cost h pc sp fp c)
held_as steps cost h pc sp fp (Polls b n p r room) =
    Polls b n (record { at = p.at; word = p.word; unit = unit_as steps cost h b p.at p.unit; inside = p.inside; within = p.within; address = p.address })
    r (record { ends = room.ends; place = room.place })

pub runs_as : (steps cost : ℕ) (h : Host) (b n : ℕ) (node : Node) → RunsAt h b n node → RunsAt (resummed steps cost h) b n node
runs_as steps cost h b n node r =
    let v = r.view in
    record {
      view = record {
        sp = v.sp;
        pc = v.pc;
        known = v.known;
        running = v.running;
        frame = record { ends = v.frame.ends; place = v.frame.place };
        older = v.older;
        count = v.count;
        few = v.few;
        held = v.held;
        callers = laid_as (IsCaller h) (IsCaller (resummed steps cost h)) (entry_frame h.current) ending_stub h.machine.memory v.older (h.machine.regs 30) (frame_before h.machine.memory (h.machine.regs 30) h.machine.older) (h.machine.regs 31 + 8) (but_first h.machine.older) (caller_as steps cost h) v.callers;
      };
      stands = r.stands;
      poll = record { at = r.poll.at; unit = unit_as steps cost h b r.poll.at r.poll.unit; inside = r.poll.inside; address = r.poll.address };
      node_is = r.node_is;
    }

pub hosted_as : (steps cost : ℕ) (h : Host) → IsHosted h → IsHosted (resummed steps cost h)
hosted_as steps cost h x = record {
  within = x.within;
  register_0 = x.register_0;
  windows = x.windows;
  units = λ b at given is stands. unit_as steps cost h b at (x.units b at given is stands);
  stub = x.stub;
  activities = x.activities;
  others = λ k sp pc n is ne. laid_as (IsHeld h) (IsHeld (resummed steps cost h)) (entry_frame k) ending_stub h.machine.memory n sp (saved_at h.machine.memory sp) pc [] (held_as steps cost h) (x.others k sp pc n is ne);
  parked = λ k sp pc n is ne.
      take_up_as h (resummed steps cost h) (λ q b j p. record { at = p.at; unit = unit_as steps cost h b p.at p.unit; inside = p.inside; address = p.address }) (λ b s f r. record { ends = r.ends; place = r.place }) (caller_as steps cost h)
      h.machine.memory k sp pc n (x.parked k sp pc n is ne);
  goal = x.goal;
}

thread_as : (steps cost : ℕ) (h : Host) (k : ℕ) (s : Status) → thread_of (resummed steps cost h) k s ≡ thread_of h k s
unfolding descriptor_at
thread_as steps cost h k (Waiting sp pc n) = refl
thread_as steps cost h k (Answered w) = refl
thread_as steps cost h k (Failed e p) = refl

pub threads_as : (steps cost : ℕ) (h : Host) (from : ℕ) (ss : List Status) → threads_from (resummed steps cost h) from ss ≡ threads_from h from ss
threads_as steps cost h from [] = refl
threads_as steps cost h from (s ∷ ss) = ap (λ t. t ∷ threads_from (resummed steps cost h) (from + 1) ss) (thread_as steps cost h from s) ∙ ap (λ ts. thread_of h from s ∷ ts) (threads_as steps cost h (from + 1) ss)
