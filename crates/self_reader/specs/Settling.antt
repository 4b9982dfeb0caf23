-- How what is wrong at a sign is found, and what is counted behind it. Used by contracts of private functions alone: no public clause cites it.
use Rattle.std.specs.Prelude.{◌≡◌, ℕ, ◌+◌, nat_le, not, ◌&&◌, Bool, Option, None, Some, Result, Ok, Err, List, [], ◌++◌, length, map}
use Rattle.self_grammar.specs.declared.signs.Spot.{Spot}
use Rattle.self_grammar.specs.declared.signs.ReadKind.TheVariants as kind
use Rattle.self_grammar.specs.declared.signs.ReadRefusal.{ReadRefusal}
use Rattle.self_grammar.specs.declared.pieces.Made.{Made}
use Rattle.self_grammar.specs.Counts.{Limits, Breach, Context, Event, here, when, sooner, first_of, placed, too_pending, too_many_nodes, too_large, pending_after, nesting_after}
use Rattle.self_reader.specs.declared.settling.Sums.{Sums}
use Rattle.self_reader.specs.declared.stops.ReadStop.{ReadStop}
use Rattle.self_reader.specs.declared.stops.ReadStop.TheVariants as stops

-- the first of what one list has and of what one behind it has
abbrev pub or_sooner : Option ReadRefusal → Option ReadRefusal → Option ReadRefusal
or_sooner None o = o
or_sooner (Some r) o = sooner r o

-- what is wrong first of these
abbrev pub first_at : Spot → List Breach → Option ReadRefusal
first_at p bs = first_of (map (placed p) bs)

abbrev pub too_deep : Limits → ℕ → Bool → List Breach
too_deep l nesting opens = when (opens && not (nat_le (nesting + 1) l.nesting)) (here kind.TooDeep)

-- all that is broken, where these nodes are made
abbrev pub broken_at : Limits → List Breach → Sums → List Made → Event → List Breach
broken_at l late s made e =
    late ++ e.broken ++ too_deep l s.nesting e.opens ++ too_pending l.pending s.pending made ++ too_many_nodes l s.nodes s.size made ++ too_large l (s.size + length made) e.counted

-- the numbers behind these nodes
abbrev pub sums_behind : Sums → List Made → Event → Sums
sums_behind s made e = record {
  nesting = nesting_after s.nesting e.opens e.closes;
  pending = pending_after s.pending made;
  nodes = s.nodes + length made;
  size = s.size + length made + length e.counted;
}

-- The numbers pass no limit there.
pub record HasRoom (l : Limits) (s : Sums) (made : List Made) (e : Event) : Type 0 where
  pub deep : too_deep l s.nesting e.opens ≡ []
  pub nodes : too_many_nodes l s.nodes s.size made ≡ []
  pub large : too_large l (s.size + length made) e.counted ≡ []

-- What is wrong first at a sign, or these counts, unless memory ran out.
abbrev pub Settles : Result Context ReadStop → Option ReadRefusal → Context → Type 0
Settles (Ok c) fault want = (fault ≡ None) × (c ≡ want)
Settles (Err (stops.Refused r)) fault want = fault ≡ Some r
Settles (Err stops.OutOfMemory) fault want = Unit {0}
