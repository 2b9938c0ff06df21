use Rattle.std.proofs.Common.{◌≡◌, ℕ, ◌+◌, ◌∙◌, List, [], ◌∷◌, ◌++◌, take, drop, sym, ap, subst, arith, rules}
use Rattle.std.proofs.lemmas.List.{drop-set-lt, length-set, map-append, take_more_set}
use Rattle.board.specs.History.{no_history}
use Rattle.board.specs.Held.{log_of}
use Rattle.board.specs.Log.{Log, Reply, replies_of, reply_of}
use Rattle.board.specs.Requests.{Request, request_of, requests_of}
use Rattle.board.specs.Tallies.{Tallies}
use Rattle.board.proofs.Only.{run_one}
use Rattle.board.proofs.Runs.{SoFar, none_yet, one_more}
use Rattle.board.proofs.Whole.{drop_one, longer}
use Rattle.board.proofs.board.Board.ask_all.Goals as goal

pub loop-k-init : goal.loop-k-init
loop-k-init g c = (search rules, search rules, none_yet c.args.self.now)

pub loop-k-preserved : goal.loop-k-preserved
loop-k-preserved g c =
    let k = c.loop-k.k in
    let i = c.loop-k.invariant in
    let old = c.loop-k.replies in
    let here = take_more_set old k c.ask.result (omega (arith, i.0, c.loop-k-test.true)) in
    let replies = ap replies_of here ∙ map-append (reply_of (λ x. x)) (take k old) (c.ask.result ∷ []) in
    let calls = longer (request_of g.P.Policy) c.args.calls.now k c.index-calls-k.result (omega (arith, c.loop-k-test.true)) (search rules) in
    let on = one_more c.args.self.now c.loop-k.self c.ask.new.self (requests_of g.P.Policy (take k c.args.calls.now)) (replies_of (take k old))
    (request_of g.P.Policy c.index-calls-k.result) (reply_of (λ x. x) c.ask.result) i.2 c.ask.ensures.promise in (
      length-set old k c.ask.result ∙ i.0,
      drop-set-lt (k + 1) old k c.ask.result (omega arith) ∙ drop_one k old ∙ ap (drop 1) i.1 ∙ sym (drop_one k c.args.replies.now),
      subst (λ (rs : List Reply). SoFar c.args.self.now c.ask.new.self (requests_of g.P.Policy (take (k + 1) c.args.calls.now)) rs) (sym replies)
          (subst (λ (cs : List (Request g.P.Policy.Position)). SoFar c.args.self.now c.ask.new.self cs (replies_of (take k old) ++ reply_of (λ x. x) c.ask.result ∷ [])) (sym calls) on),
    )

pub returns : goal.returns
returns g c =
    let count = c.room-count.result in
    let e : c.loop-k.k ≡ count = omega arith in
    let i = c.loop-k.invariant in
    let calls = requests_of g.P.Policy (take count c.args.calls.now) in
    let so_far = subst (λ (n : ℕ). SoFar c.args.self.now c.loop-k.self (requests_of g.P.Policy (take n c.args.calls.now)) (replies_of (take n c.loop-k.replies))) e i.2 in
    record {
      count = c.room-count.ensures;
      answers = so_far.answered;
      only = λ others run. run_one g.P.Policy.meaning (log_of c.args.self.now) calls others (replies_of (take count c.loop-k.replies)) run so_far.answered;
      log = so_far.log;
      ages = so_far.ages;
      ages_from_rest = λ rests. so_far.ages no_history (subst (λ (l : Log). Tallies l no_history) (sym rests) tt);
      tallies = so_far.tallies;
      rest = subst (λ (n : ℕ). drop n c.loop-k.replies ≡ drop n c.args.replies.now) e i.1;
    }
