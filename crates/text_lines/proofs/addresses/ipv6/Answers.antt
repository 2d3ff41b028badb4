use Rattle.text_lines.proofs.AddressLaws.{ipv6_same, ipv6_other, ipv6_unread, is_word, is_no_word}
use Rattle.text_lines.proofs.addresses.ipv6.Goals as goal

pub returns-then-same : goal.returns-then-same
returns-then-same c = let read = ipv6_same _ _ _ c.in-Ok.ensures c.in_ok-same-in-Ok.ensures.same c.if-same.true in record { value = read; spelled = is_word _ _ read }

pub returns-else-same : goal.returns-else-same
returns-else-same c = let read = ipv6_other _ _ _ c.in-Ok.ensures c.in_ok-same-in-Ok.ensures.same c.if-same.false in record { value = read; spelled = is_no_word _ read }

pub returns-in-Err : goal.returns-in-Err
returns-in-Err c = let read = ipv6_unread _ c.in-Err.ensures in record { value = read; spelled = is_no_word _ read }
