-- `save_texts::put_padded` meets its contract: zeros, and the text over their front. Assumes nothing.
use borrow.Author.Rules.{rules}
use Rattle.save_texts.proofs.Texts.{padded-put}
use Rattle.save_texts.proofs.put_padded.Goals as goal

pub returns : goal.returns
returns c =
    padded-put c.args.out.now _ _ _ _ _ c.requires (c.fill.ensures.after (λ y h. search rules)) c.fitting-n.ensures.0 c.copy_field.ensures
