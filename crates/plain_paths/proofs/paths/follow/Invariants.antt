use Rattle.std.proofs.Common.{◌≡◌, map, drop}
use Rattle.std.specs.Prelude.{Some, fold}
use Rattle.plain_paths.specs.Paths.{IsOfHeap, further, name_number, word_at_path}
use Rattle.plain_paths.proofs.paths.follow.Given as goal

-- the rest of the path leads from here where the whole path leads
abbrev pub invariant-loop-at : goal.invariant-loop-at
invariant-loop-at l = IsOfHeap l.fn.maps l.fn.mem l.here
    × (fold (further l.fn.maps l.fn.mem) (Some l.here) (map name_number (drop l.at l.fn.path)) ≡ word_at_path l.fn.maps l.fn.mem l.fn.lobby l.fn.lobby_name.0 (map name_number l.fn.path))
