-- `text::Page::put_line` puts its line: what is left of it, put after what has been put, gives the same as the whole line.
use Rattle.std.proofs.Common.{◌≡◌, ◌+◌, ◌≤◌, drop}
use Rattle.text.specs.Text.{put_on, shown}
use Rattle.text.specs.Page.{line_of}
use Rattle.text.proofs.Page.put_line.Given as goal

abbrev pub invariant-loop-b : goal.invariant-loop-b
invariant-loop-b l =
    (put_on (shown l.self) (line_of l.left (drop l.b-index l.lines)) ≡ put_on (shown l.initial.self) (line_of l.n l.lines))
    × (l.self.len ≤ l.initial.self.len + l.b-index)
