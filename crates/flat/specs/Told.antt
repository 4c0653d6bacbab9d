-- What the answers of leaves and walkers tell, by the numbers of the refusals. Where the place of a refusal is not told, it is where the reading began, and
-- the contract says so beside.
use Rattle.std.specs.Prelude.{Result, Ok, Err}
use Rattle.constants.specs.declared.refusal.Refused as error
use Rattle.constants.specs.Number.{number_of}
use Rattle.flat.specs.declared.Past as past
use Rattle.flat.specs.declared.leaf.Counted.{Counted}
use Rattle.flat.specs.declared.leaf.Extent.{Extent}
use Rattle.flat.specs.declared.leaf.PresenceBits.{PresenceBits}
use Rattle.flat.specs.declared.elements.InnerBits.{InnerBits}
use Rattle.flat.specs.Count as count
use Rattle.flat.specs.Span as span
use Rattle.flat.specs.Head as head
use Rattle.flat.specs.InnerHead as inner
use Rattle.flat.specs.Walk as walk

abbrev pub told_count : Result Counted error.Refused → count.Count
told_count (Ok r) = count.Is r.n r.start
told_count (Err e) = count.Refused (number_of e.refusal)

abbrev pub told_span : Result Extent error.Refused → span.Span
told_span (Ok r) = span.At r.from r.to
told_span (Err e) = span.Refused e.place (number_of e.refusal)

abbrev pub told_head : Result PresenceBits error.Refused → head.Head
told_head (Ok r) = head.Bits r.word r.known r.ones r.unknown r.start
told_head (Err e) = head.Refused (number_of e.refusal)

abbrev pub told_inner : Result InnerBits error.Refused → inner.InnerHead
told_inner (Ok r) = inner.Bits r.known r.start
told_inner (Err e) = inner.Refused (number_of e.refusal)

abbrev pub told_walk : Result past.Past error.Refused → walk.Walk
told_walk (Ok r) = walk.Past r.due r.next r.row
told_walk (Err e) = walk.Refused (number_of e.refusal) e.place
