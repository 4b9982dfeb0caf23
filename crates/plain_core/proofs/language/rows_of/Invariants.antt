use Rattle.std.proofs.Common.{◌≡◌, ◌≤◌, ◌++◌, map, drop, length, vec_len, vec_capacity}
use Rattle.prim_table.specs.Named.{prim_named}
use Rattle.plain_core.proofs.language.rows_of.Given as goal

abbrev pub invariant-loop-at : goal.invariant-loop-at
invariant-loop-at l = record {
  so_far : l.rows.items ++ map prim_named (drop l.at l.names) ≡ map prim_named l.names;
  long : vec_len l.rows ≡ l.at;
  room : length l.names ≤ vec_capacity l.rows;
}
