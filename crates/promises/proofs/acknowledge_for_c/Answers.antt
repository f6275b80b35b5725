-- Rests on `c_acknowledgement_carries` and `c_acknowledge_leaves`; that the ID's elements are bytes is what owning the slice tells.
use native.Mathlib.Omega.{arith}
use Rattle.promises.proofs.ForC.{c_acknowledge_leaves, c_acknowledgement_carries}
use Rattle.promises.proofs.acknowledge_for_c.Goals as goal

pub returns : goal.returns
returns c =
    let m = c.args.message.now in
    let time = c.args.time.now in
    let id = c.args.id.now in
    let lent = c.args.buffer.now in
    let a = c.turrethog_acknowledge.ensures in
    record {
      acknowledge_seen = a;
      carries = c_acknowledgement_carries m time id lent a (λ i. let f = c.type_inv.id i in omega arith);
      buffer_unchanged = c_acknowledge_leaves m time id lent a;
    }
