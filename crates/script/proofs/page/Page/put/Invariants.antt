use Rattle.std.proofs.Common.{◌≡◌, ◌+◌, ◌++◌, take}
use Rattle.script.specs.Pages.{written, size}
use Rattle.script.proofs.page.Page.put.Given as goal

abbrev pub invariant-loop-byte : goal.invariant-loop-byte
invariant-loop-byte l = (size l.self ≡ size l.initial.self) × (l.self.len ≡ l.initial.self.len + l.byte-index) × (written l.self ≡ written l.initial.self ++ take l.byte-index l.bytes)
