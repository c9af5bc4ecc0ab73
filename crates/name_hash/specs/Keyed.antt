-- The hashing of a key.
use Rattle.std.specs.Prelude.{ℕ, List}
use Rattle.std.specs.Hash.DefaultHasher as sip
use Rattle.name_hash.specs.declared.hashing.NameHashing.{NameHashing}

-- SipHash of the key and of what is written behind it
abbrev pub keyed : List ℕ → NameHashing
keyed key = record { initial = sip.write sip.initial key }
