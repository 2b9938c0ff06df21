use Rattle.std.proofs.Common.{◌≡◌, length, take, drop}
use Rattle.board.specs.Log.{replies_of}
use Rattle.board.specs.Requests.{requests_of}
use Rattle.board.proofs.Runs.{SoFar}
use Rattle.board.proofs.board.Board.ask_all.Given as goal

abbrev pub invariant-loop-k : goal.invariant-loop-k
invariant-loop-k g l =
    (length l.replies ≡ length l.initial.replies)
    × (drop l.k l.replies ≡ drop l.k l.initial.replies)
    × SoFar l.initial.self l.self (requests_of g.P.Policy (take l.k l.calls)) (replies_of (take l.k l.replies))
