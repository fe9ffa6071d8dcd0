use Rattle.std.proofs.Common.{◌≡◌, take}
use Rattle.page_model.specs.Address.{hash_of}
use Rattle.lin_addr.proofs.fnv.hash.Given as goal

-- the hash of the bytes so far
abbrev pub invariant-loop-byte : goal.invariant-loop-byte
invariant-loop-byte l = l.hash ≡ hash_of (take l.byte-index l.key)
