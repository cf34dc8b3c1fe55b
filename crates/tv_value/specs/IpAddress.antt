-- The number of an IP address, one of version 4 as ::ffff:a.b.c.d.
use Rattle.std.specs.Prelude.{ℕ, List}
use Rattle.std.specs.Int.{w128, from_be_bytes}
use Rattle.std.specs.Net.Addr.{ipv6_segments, embedded_segments, octets_of}
use Rattle.std.specs.declared.net.ip_addr.IpAddr.{IpAddr}
use Rattle.std.specs.declared.net.ip_addr.IpAddr.TheVariants.{V4, V6}

-- the eight segments
abbrev pub segments_in_six : IpAddr → List ℕ
segments_in_six (V4 address) = embedded_segments 0xffff address
segments_in_six (V6 address) = ipv6_segments address

-- the highest octet first
abbrev pub address_number : IpAddr → ℕ
address_number address = from_be_bytes w128 (octets_of (segments_in_six address))
