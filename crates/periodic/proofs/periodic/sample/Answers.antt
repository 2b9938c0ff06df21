use Rattle.std.proofs.Common.{◌+◌, ◌∙◌, set, ap, sym, subst, arith}
use Rattle.periodic.proofs.Masks.{mask_fits, bit_fits}
use Rattle.periodic.proofs.Samples.{SampledBelow, room, sampled_due, sampled_not}
use Rattle.periodic.proofs.periodic.sample.Goals as goal
use Rattle.periodic.proofs.periodic.sample.Goals.{then-sample, else-sample}

pub overflow_add-mask : goal.overflow_add-mask
overflow_add-mask c =
    let f = mask_fits c.args.phases.now c.requires in
    let r = room c.loop-k.k c.args.phases.now c.loop-k.mask c.loop-k.phases c.loop-k-test.true c.loop-k.invariant c.if-sample.ensures.due in
    let b = bit_fits c.loop-k.k (omega arith) in
    omega arith

pub loop-k-preserved : goal.loop-k-preserved
loop-k-preserved c =
    let k = c.loop-k.k in
    let old = c.args.phases.now in
    let rows = c.loop-k.phases in
    let r = c.sample.new.self in
    elim c.if-sample.branch [
      | then-sample w ↦
          subst (λ m. SampledBelow (k + 1) old m (set rows k r)) (sym (w.mask-is ∙ ap (λ n. c.loop-k.mask + n) (bit_fits k (omega arith))))
          (sampled_due k old c.loop-k.mask rows c.loop-k-test.true c.loop-k.invariant r (omega arith) w.if-sample.ensures.due c.sample.ensures.taken)
      | else-sample w ↦
          subst (λ m. SampledBelow (k + 1) old m (set rows k r)) (sym w.mask-is)
          (sampled_not k old c.loop-k.mask rows c.loop-k-test.true c.loop-k.invariant r (omega arith) w.if-sample.ensures.due c.sample.ensures.taken)
    ]
