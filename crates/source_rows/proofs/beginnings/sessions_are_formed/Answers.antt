use Rattle.std.specs.Prelude.{refl}
use Rattle.self_terms.specs.Depths.{depth}
use Rattle.source_model.specs.Testing.{can_begin, command_fits}
use Rattle.source_rows.proofs.beginnings.sessions_are_formed.Goals as goal

pub returns-clause-r1 : goal.returns-clause-r1
unfolding can_begin command_fits depth
returns-clause-r1 c = refl

pub returns-clause-r2 : goal.returns-clause-r2
unfolding can_begin command_fits depth
returns-clause-r2 c = refl

pub returns-clause-r4a : goal.returns-clause-r4a
unfolding can_begin command_fits depth
returns-clause-r4a c = refl

pub returns-clause-r4b : goal.returns-clause-r4b
unfolding can_begin command_fits depth
returns-clause-r4b c = refl

pub returns-clause-r5 : goal.returns-clause-r5
unfolding can_begin command_fits depth
returns-clause-r5 c = refl

pub returns-clause-r6a : goal.returns-clause-r6a
unfolding can_begin command_fits depth
returns-clause-r6a c = refl

pub returns-clause-r6b : goal.returns-clause-r6b
unfolding can_begin command_fits depth
returns-clause-r6b c = refl

pub returns-clause-r6c : goal.returns-clause-r6c
unfolding can_begin command_fits depth
returns-clause-r6c c = refl

pub returns-clause-r7 : goal.returns-clause-r7
unfolding can_begin command_fits depth
returns-clause-r7 c = refl

pub returns-clause-r8a : goal.returns-clause-r8a
unfolding can_begin command_fits depth
returns-clause-r8a c = refl

pub returns-clause-r8b : goal.returns-clause-r8b
unfolding can_begin command_fits depth
returns-clause-r8b c = refl

pub returns-clause-r9 : goal.returns-clause-r9
unfolding can_begin command_fits depth
returns-clause-r9 c = refl

pub returns-clause-r13 : goal.returns-clause-r13
unfolding can_begin command_fits depth
returns-clause-r13 c = refl

pub returns-clause-r16 : goal.returns-clause-r16
unfolding can_begin command_fits depth
returns-clause-r16 c = refl

pub returns-clause-r17a : goal.returns-clause-r17a
unfolding can_begin command_fits depth
returns-clause-r17a c = refl

pub returns-clause-r17b : goal.returns-clause-r17b
unfolding can_begin command_fits depth
returns-clause-r17b c = refl

pub returns-clause-r17c : goal.returns-clause-r17c
unfolding can_begin command_fits depth
returns-clause-r17c c = refl

pub returns-clause-r18 : goal.returns-clause-r18
unfolding can_begin command_fits depth
returns-clause-r18 c = refl

pub returns-clause-r22 : goal.returns-clause-r22
unfolding can_begin command_fits depth
returns-clause-r22 c = refl

pub returns-clause-nodes1 : goal.returns-clause-nodes1
unfolding can_begin command_fits depth
returns-clause-nodes1 c = refl

pub returns-clause-nodes2 : goal.returns-clause-nodes2
unfolding can_begin command_fits depth
returns-clause-nodes2 c = refl

pub returns-clause-nodes3 : goal.returns-clause-nodes3
unfolding can_begin command_fits depth
returns-clause-nodes3 c = refl

pub returns-clause-nodes4 : goal.returns-clause-nodes4
unfolding can_begin command_fits depth
returns-clause-nodes4 c = refl

pub returns-clause-nonlocal : goal.returns-clause-nonlocal
unfolding can_begin command_fits depth
returns-clause-nonlocal c = refl

pub returns-clause-value_int : goal.returns-clause-value_int
unfolding can_begin command_fits depth
returns-clause-value_int c = refl

pub returns-clause-setters : goal.returns-clause-setters
unfolding can_begin command_fits depth
returns-clause-setters c = refl

pub returns-clause-diamond_set : goal.returns-clause-diamond_set
unfolding can_begin command_fits depth
returns-clause-diamond_set c = refl

pub returns-clause-cycle : goal.returns-clause-cycle
unfolding can_begin command_fits depth
returns-clause-cycle c = refl

pub returns-clause-clone_own : goal.returns-clause-clone_own
unfolding can_begin command_fits depth
returns-clause-clone_own c = refl

pub returns-clause-assign_answer : goal.returns-clause-assign_answer
unfolding can_begin command_fits depth
returns-clause-assign_answer c = refl

pub returns-clause-prims1 : goal.returns-clause-prims1
unfolding can_begin command_fits depth
returns-clause-prims1 c = refl

pub returns-clause-prims2 : goal.returns-clause-prims2
unfolding can_begin command_fits depth
returns-clause-prims2 c = refl

pub returns-clause-prims3 : goal.returns-clause-prims3
unfolding can_begin command_fits depth
returns-clause-prims3 c = refl

pub returns-clause-vectors : goal.returns-clause-vectors
unfolding can_begin command_fits depth
returns-clause-vectors c = refl

pub returns-clause-strings : goal.returns-clause-strings
unfolding can_begin command_fits depth
returns-clause-strings c = refl

pub returns-clause-undefined1 : goal.returns-clause-undefined1
unfolding can_begin command_fits depth
returns-clause-undefined1 c = refl

pub returns-clause-undefined2 : goal.returns-clause-undefined2
unfolding can_begin command_fits depth
returns-clause-undefined2 c = refl

pub returns-clause-wrong_args : goal.returns-clause-wrong_args
unfolding can_begin command_fits depth
returns-clause-wrong_args c = refl

pub returns-clause-h_clone : goal.returns-clause-h_clone
unfolding can_begin command_fits depth
returns-clause-h_clone c = refl

pub returns-clause-h_vector : goal.returns-clause-h_vector
unfolding can_begin command_fits depth
returns-clause-h_vector c = refl

pub returns-clause-h_vector2 : goal.returns-clause-h_vector2
unfolding can_begin command_fits depth
returns-clause-h_vector2 c = refl

pub returns-clause-h_vector3 : goal.returns-clause-h_vector3
unfolding can_begin command_fits depth
returns-clause-h_vector3 c = refl

pub returns-clause-h_at : goal.returns-clause-h_at
unfolding can_begin command_fits depth
returns-clause-h_at c = refl

pub returns-clause-h_at2 : goal.returns-clause-h_at2
unfolding can_begin command_fits depth
returns-clause-h_at2 c = refl

pub returns-clause-h_at3 : goal.returns-clause-h_at3
unfolding can_begin command_fits depth
returns-clause-h_at3 c = refl

pub returns-clause-h_at4 : goal.returns-clause-h_at4
unfolding can_begin command_fits depth
returns-clause-h_at4 c = refl

pub returns-clause-h_put : goal.returns-clause-h_put
unfolding can_begin command_fits depth
returns-clause-h_put c = refl

pub returns-clause-h_put2 : goal.returns-clause-h_put2
unfolding can_begin command_fits depth
returns-clause-h_put2 c = refl

pub returns-clause-h_div : goal.returns-clause-h_div
unfolding can_begin command_fits depth
returns-clause-h_div c = refl

pub returns-clause-h_mod : goal.returns-clause-h_mod
unfolding can_begin command_fits depth
returns-clause-h_mod c = refl

pub returns-clause-h_type : goal.returns-clause-h_type
unfolding can_begin command_fits depth
returns-clause-h_type c = refl

pub returns-clause-h_type2 : goal.returns-clause-h_type2
unfolding can_begin command_fits depth
returns-clause-h_type2 c = refl

pub returns-clause-h_mul : goal.returns-clause-h_mul
unfolding can_begin command_fits depth
returns-clause-h_mul c = refl

pub returns-clause-h_sub : goal.returns-clause-h_sub
unfolding can_begin command_fits depth
returns-clause-h_sub c = refl

pub returns-clause-h_eq : goal.returns-clause-h_eq
unfolding can_begin command_fits depth
returns-clause-h_eq c = refl

pub returns-clause-h_size : goal.returns-clause-h_size
unfolding can_begin command_fits depth
returns-clause-h_size c = refl

pub returns-clause-h_print : goal.returns-clause-h_print
unfolding can_begin command_fits depth
returns-clause-h_print c = refl

pub returns-clause-h_print2 : goal.returns-clause-h_print2
unfolding can_begin command_fits depth
returns-clause-h_print2 c = refl

pub returns-clause-h_seven : goal.returns-clause-h_seven
unfolding can_begin command_fits depth
returns-clause-h_seven c = refl

pub returns-clause-h_slot : goal.returns-clause-h_slot
unfolding can_begin command_fits depth
returns-clause-h_slot c = refl

pub returns-clause-h_one_arg : goal.returns-clause-h_one_arg
unfolding can_begin command_fits depth
returns-clause-h_one_arg c = refl

pub returns-clause-h_nonlifo : goal.returns-clause-h_nonlifo
unfolding can_begin command_fits depth
returns-clause-h_nonlifo c = refl

pub returns-clause-implied_prim : goal.returns-clause-implied_prim
unfolding can_begin command_fits depth
returns-clause-implied_prim c = refl

pub returns-clause-if_fail_alone : goal.returns-clause-if_fail_alone
unfolding can_begin command_fits depth
returns-clause-if_fail_alone c = refl

pub returns-clause-args5 : goal.returns-clause-args5
unfolding can_begin command_fits depth
returns-clause-args5 c = refl

pub returns-clause-args_wrong : goal.returns-clause-args_wrong
unfolding can_begin command_fits depth
returns-clause-args_wrong c = refl

pub returns-clause-block_slot : goal.returns-clause-block_slot
unfolding can_begin command_fits depth
returns-clause-block_slot c = refl

pub returns-clause-block_shown : goal.returns-clause-block_shown
unfolding can_begin command_fits depth
returns-clause-block_shown c = refl

pub returns-clause-block_other : goal.returns-clause-block_other
unfolding can_begin command_fits depth
returns-clause-block_other c = refl

pub returns-clause-restart : goal.returns-clause-restart
unfolding can_begin command_fits depth
returns-clause-restart c = refl

pub returns-clause-restart_block : goal.returns-clause-restart_block
unfolding can_begin command_fits depth
returns-clause-restart_block c = refl

pub returns-clause-overflow : goal.returns-clause-overflow
unfolding can_begin command_fits depth
returns-clause-overflow c = refl

pub returns-clause-storefull_vec : goal.returns-clause-storefull_vec
unfolding can_begin command_fits depth
returns-clause-storefull_vec c = refl

pub returns-clause-storefull_block : goal.returns-clause-storefull_block
unfolding can_begin command_fits depth
returns-clause-storefull_block c = refl

pub returns-clause-storefull_block2 : goal.returns-clause-storefull_block2
unfolding can_begin command_fits depth
returns-clause-storefull_block2 c = refl

pub returns-clause-storefull_spawn : goal.returns-clause-storefull_spawn
unfolding can_begin command_fits depth
returns-clause-storefull_spawn c = refl

pub returns-clause-storefull_clone : goal.returns-clause-storefull_clone
unfolding can_begin command_fits depth
returns-clause-storefull_clone c = refl

pub returns-clause-storefull_enter : goal.returns-clause-storefull_enter
unfolding can_begin command_fits depth
returns-clause-storefull_enter c = refl

pub returns-clause-commands : goal.returns-clause-commands
unfolding can_begin command_fits depth
returns-clause-commands c = refl

pub returns-clause-interrupt : goal.returns-clause-interrupt
unfolding can_begin command_fits depth
returns-clause-interrupt c = refl

pub returns-clause-finish : goal.returns-clause-finish
unfolding can_begin command_fits depth
returns-clause-finish c = refl

pub returns-clause-edits : goal.returns-clause-edits
unfolding can_begin command_fits depth
returns-clause-edits c = refl

pub returns-clause-edit_size : goal.returns-clause-edit_size
unfolding can_begin command_fits depth
returns-clause-edit_size c = refl

pub returns-clause-r10 : goal.returns-clause-r10
unfolding can_begin command_fits depth
returns-clause-r10 c = refl

pub returns-clause-r12 : goal.returns-clause-r12
unfolding can_begin command_fits depth
returns-clause-r12 c = refl
