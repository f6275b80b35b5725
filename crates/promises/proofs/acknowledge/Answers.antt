-- Rests on `acknowledgement_carries`; that the ID's elements are bytes is what owning the slice tells.
use native.Mathlib.Omega.{arith}
use Rattle.promises.proofs.Demand2.{acknowledgement_carries}
use Rattle.promises.proofs.acknowledge.Goals as goal

pub returns-clause-carries : goal.returns-clause-carries
returns-clause-carries c =
    acknowledgement_carries c.args.message.now c.args.time.now c.args.id.now c.args.buffer.now (λ i. let f = c.type_inv.id i in omega arith) c.acknowledge.ensures
