use Rattle.std.proofs.Common.{◌+◌, ◌-◌, [], ◌∷◌, ◌++◌, ap, ◌∙◌, arith}
use Rattle.plain_host.specs.Hosted.{host}
use Rattle.shown_frames.specs.Listed.{words_down}
use Rattle.plain_show.proofs.WordLists.{down_next}
use Rattle.plain_show.proofs.frames.put_down.Goals as goal

pub loop-j-preserved : goal.loop-j-preserved
loop-j-preserved c =
    let memory = (host c.args.hosting.now).machine.memory in
    let j = c.loop-j.j in
    let n = c.args.count in
    let ws = c.loop-j.into.items in
    let rest = words_down memory c.args.at (n - (j + 1)) in
    let pushed = c.push_reserved.ensures.len in
    let kept = c.push_reserved.ensures.capacity in
    let long = c.loop-j.invariant.long in
    record {
      words = ap (λ z. z ++ rest) (c.push_reserved.ensures.items ∙ ap (λ w. ws ++ w ∷ []) c.frame_word.ensures) ∙ down_next memory c.args.at j n ws c.loop-j-test.true ∙ c.loop-j.invariant.words;
      long = omega arith;
      capacity = kept ∙ c.loop-j.invariant.capacity;
    }
