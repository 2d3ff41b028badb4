use Rattle.recursor_core.proofs.MachineWords.{◌≡◌, ◌∙◌, ℕ, Option, length, arith, subst, slice_get, ReplyOf, Reply, QuestionState}
use Rattle.recursor_core.proofs.QuestionBegins.{each_push}
use Rattle.recursor_core.proofs.machine.plays.replies.Goals as goal

pub loop-place-preserved : goal.loop-place-preserved
loop-place-preserved c =
    let i = c.loop-place.invariant in
    let t = c.take_reply-reply.ensures in
    let given = c.take_reply-reply.result in
    let replied : length c.loop-place.replies.items ≡ c.loop-place.place = omega (arith, i.replied, c.loop-place.replies.ok.0) in
    let was = c.args.plays.now.items in
    let here : ReplyOf (slice_get was c.loop-place.place) given = subst (λ (p : Option QuestionState). ReplyOf p given) (i.left c.loop-place.place (omega arith)) t.reply in
    record {
      replied = omega (arith, i.replied, c.in_ok-push.ensures.len);
      count = t.count ∙ i.count;
      left = λ k le. t.others k (λ same. omega arith) ∙ i.left k (omega arith);
      each = rw c.in_ok-push.ensures.items
          (each_push (λ (q : ℕ) (reply : Reply). ReplyOf (slice_get was q) reply) c.loop-place.replies.items given (rw replied here) i.each);
    }
