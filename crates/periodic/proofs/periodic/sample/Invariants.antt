use Rattle.periodic.proofs.Samples.{SampledBelow}
use Rattle.periodic.proofs.periodic.sample.Given as goal

abbrev pub invariant-loop-k : goal.invariant-loop-k
invariant-loop-k l = SampledBelow l.k l.initial.phases l.mask l.phases
