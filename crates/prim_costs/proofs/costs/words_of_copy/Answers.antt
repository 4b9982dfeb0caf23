use Rattle.std.proofs.Common.{◌∙◌, sym, ap}
use Rattle.prim_table.specs.Answers.{cost}
use Rattle.prim_table.specs.Operands.{is_block_sort}
use Rattle.prim_table.proofs.Sorting.{sound, sorted, block_named, unblocked}
use Rattle.prim_table.proofs.Copying.{block_refused, clone_room}
use Rattle.prim_costs.proofs.costs.words_of_copy.Goals as goal

pub is_block-requires : goal.is_block-requires
is_block-requires c = sound c.args.maps.now c.args.mem.now c.requires.0 c.args.receiver c.requires.1

pub returns-then-is_block : goal.returns-then-is_block
returns-then-is_block c = λ heap h p things made v is x.
    let b = block_named things v (sym (ap is_block_sort (sorted c.args.maps.now c.args.mem.now heap h p things made is v c.args.receiver x)) ∙ sym c.if-is_block.ensures) in
    sym (ap cost (block_refused things v b))

pub clone_words-requires : goal.clone_words-requires
clone_words-requires c =
    let heap = c.requires.0 in
    let o = c.requires.1 in (
      heap,
      record {
        cells = o.cells;
        places = o.places;
        objects = o.objects;
        made = o.made;
        value = o.value;
        is = o.is;
        stands = o.stands;
        no_block = unblocked o.objects o.value (sym (ap is_block_sort (sorted c.args.maps.now c.args.mem.now heap o.cells o.places o.objects o.made o.is o.value c.args.receiver o.stands)) ∙ sym c.if-is_block.ensures);
      },
    )

pub returns : goal.returns
returns c = λ heap h p things made v is x.
    let no_block = unblocked things v (sym (ap is_block_sort (sorted c.args.maps.now c.args.mem.now heap h p things made is v c.args.receiver x)) ∙ sym c.if-is_block.ensures) in
    c.clone_words.ensures ∙ clone_room c.args.maps.now c.args.mem.now heap h p things made is v c.args.receiver x no_block
