-- The members of an object that is being read.
use Rattle.serde_json.specs.Data.{Members}
use Rattle.tv_json.specs.BorrowedData.{members_data}
use Rattle.tv_json.specs.declared.members.FoundMembers.{FoundMembers}
use Rattle.tv_json.specs.declared.members.FoundMembers.TheVariants.{Listed, Mapped}

abbrev pub found_data : FoundMembers → Members
found_data (Listed list) = members_data list.items
found_data (Mapped map) = members_data map.entries
