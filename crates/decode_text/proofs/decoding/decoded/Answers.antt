use Rattle.decode_text.proofs.TextsOfMessages.{text_is, fails_too}
use Rattle.decode_text.proofs.decoding.decoded.Goals as goal

pub returns-in_ok-decoded_text-in-Ok-clause-only : goal.returns-in_ok-decoded_text-in-Ok-clause-only
returns-in_ok-decoded_text-in-Ok-clause-only c = λ m is. text_is m c.in-Ok.message _ (c.in-Ok.ensures.only m is) c.in_ok-decoded_text-in-Ok.ensures

pub returns-in-Err-clause-only : goal.returns-in-Err-clause-only
returns-in-Err-clause-only c = λ m is. fails_too c.in-Err.error m (c.in-Err.ensures.only m is)
