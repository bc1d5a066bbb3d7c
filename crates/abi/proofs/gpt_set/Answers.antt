-- `abi::gpt_set`: the call's counts are small.
use Rattle.abi.proofs.Few.{set-small}
use Rattle.abi.proofs.gpt_set.Goals as goal

pub pack_changed-requires : goal.pack_changed-requires
pack_changed-requires c = rw c.set.ensures.answer (set-small _ _ _ _)
