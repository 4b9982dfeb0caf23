-- A session over the world of a file can be opened.
use Rattle.std.specs.Prelude.{◌≡◌, ℕ, ◌≤◌, true, refl, Result, List, length}
use Rattle.std.proofs.Common.{arith}
use Rattle.self_reader.specs.declared.texts.TheConstants.{LIMITS}
use Rattle.self_reader.specs.Texts.{known}
use Rattle.source_model.specs.Formed.{IsWellFormed}
use Rattle.plain_steps.specs.Steps.{NamesSums}
use Rattle.plain_opens.specs.Opens.{CanOpen}
use Rattle.plain_opens.proofs.Fixed.{names_sum}
use Rattle.plain_session.specs.Stacks.{AreShort}
use Rattle.world_blocks.specs.Sessions.{session_names}
use Rattle.world_build.specs.Worlds.{World}
use Rattle.world_code.specs.Limited.{IsLimited}
use Rattle.world_code.proofs.Runnable.{accepted_runnable}
use Rattle.world_facts.specs.Accepted.{IsAccepted}
use Rattle.world_names.proofs.Short.{accepted_short}
use Rattle.world_ready.proofs.Names.{accepted_start, accepted_sessions, stays_fixed}
use Rattle.world_ready.proofs.Rooms.{accepted_few, accepted_room}
use Rattle.world_state.specs.Begun.{begun}
use Rattle.world_test.specs.Further.{starts_fixed}
use Rattle.self_debugger.specs.Parts.{IsWorld}
use Rattle.self_debugger.specs.WorldFiles.{WorldRead, too_long, refused, unbuilt, read}
use Rattle.self_debugger.proofs.OneWorld.{Mean, text_read}

limited : IsLimited LIMITS
limited = record { nesting = omega arith; pending = omega arith; arguments = omega arith; locals = omega arith; body = omega arith }

small_by : (bytes : List ℕ) (o : Result World (List ℕ)) (w : World) → WorldRead bytes o → o ≡ Mean w → length bytes ≤ 1048576
small_by bytes _ w (too_long h) e = absurd (cc)
small_by bytes _ w (refused r h i) e = absurd (cc)
small_by bytes _ w (unbuilt t b h x f) e = absurd (cc)
small_by bytes _ w (read t v h x f) e = h

module _ (w : World) (is : IsWorld w) where
  abbrev accepted : IsAccepted is.0 w
  accepted = let t = text_read is.0 w is.1 in record { limits = LIMITS; known = known; text = t.text; size = omega arith; is = t.spelt; made = t.made }

  pub can_open : CanOpen w
  can_open = record { runs = accepted_runnable is.0 w accepted limited; room = accepted_room is.0 w accepted limited; few = accepted_few is.0 w accepted limited }

  pub fixed : starts_fixed w.names ≡ true
  fixed = accepted_start is.0 w accepted refl

  pub formed : IsWellFormed (begun w (session_names w) 0)
  formed = accepted_sessions is.0 w accepted limited 0

  pub sums : NamesSums (session_names w)
  sums = names_sum (session_names w) (stays_fixed w fixed)

  pub short : AreShort (session_names w) w.bodies
  short = accepted_short is.0 w (small_by is.0 (Mean w) w is.1 refl) accepted
