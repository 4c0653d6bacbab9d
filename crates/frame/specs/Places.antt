-- The header by the places of its fields, as the code finds it, and what the code makes of its judgement.
use Rattle.std.specs.Prelude.{ℕ, zero, suc, List, take, drop}
use Rattle.wire.specs.Little.{little}
use Rattle.frame.specs.declared.Header.{Header}
use Rattle.frame.specs.FrameRead.{FrameRead, More, Refused}

-- The number in the n bytes from `at` on.
abbrev pub number_at : List ℕ → ℕ → ℕ → ℕ
number_at s at n = little (take n (drop at s))

abbrev pub header_at : List ℕ → Header
header_at s =
    record {
      kind = number_at s 3 1;
      «package» = number_at s 5 4;
      service = number_at s 9 4;
      method = number_at s 13 4;
      correlation = number_at s 17 8;
    }

-- The answer where the header was judged: 0 leaves it to what follows, 1 asks for more bytes, and any other number refuses.
abbrev pub judged : ℕ → FrameRead → FrameRead
judged zero next = next
judged (suc zero) next = More
judged (suc (suc n)) next = Refused (suc (suc n))
