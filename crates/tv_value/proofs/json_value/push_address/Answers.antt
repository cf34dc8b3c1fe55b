use Rattle.std.proofs.Common.{rules, ◌≡◌, ◌++◌, OnOk, string_bytes, ℕ, ◌<◌, ◌^◌, length, get_or, sym, ap, subst}
use Rattle.std.specs.Net.Addr.{ipv6_bits, ipv6_segments}
use Rattle.tv_value.specs.JsonOf.{address_text, segments_text}
use Rattle.tv_value.proofs.AddressBytes.{segments_of-ipv6_bits}
use Rattle.tv_value.proofs.json_value.push_address.Goals as goal

pub returns : goal.returns
returns c =
    let a = c.args.address in
    let l : length (ipv6_segments a) ≡ 8 = search rules in
    let small : (k : ℕ) → get_or (ipv6_segments a) k 0 < 2 ^ 16 = search rules in
    let same : segments_text (ipv6_segments a) ≡ address_text (ipv6_bits a) = ap segments_text (sym (segments_of-ipv6_bits a l small)) in
    subst (λ z. OnOk c.push_segments.result (string_bytes c.push_segments.new.text ≡ string_bytes c.args.text.now ++ z)) same c.push_segments.ensures
