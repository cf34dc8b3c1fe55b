use Rattle.std.proofs.Common.{arith}
use Rattle.tv_value.proofs.Addresses.{address_bits}
use Rattle.tv_value.proofs.leaf.address_of.Goals as goal

pub returns : goal.returns
returns c = address_bits c.from_bits.result c.args.bits (omega (arith, c.ranges.bits)) c.from_bits.ensures
