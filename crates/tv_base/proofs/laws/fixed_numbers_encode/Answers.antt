use Rattle.tv_base.proofs.Shortest.{one_byte_encodes, four_bytes_encode, eight_bytes_encode, sixteen_bytes_encode}
use Rattle.tv_base.proofs.laws.fixed_numbers_encode.Goals as goal

pub returns : goal.returns
returns c = record { one = one_byte_encodes; four = four_bytes_encode; eight = eight_bytes_encode; sixteen = sixteen_bytes_encode }
