use Rattle.std.proofs.Common.{[], ◌++◌, ◌∷◌, codes, decimal, get_or, ap, sym, subst, ◌∙◌}
use Rattle.dd_model.specs.declared.index.Index.TheVariants.{Zero}
use Rattle.dd_model.specs.Symbol.{op}
use Rattle.dd_text.specs.Numbered.{IsNumbered}
use Rattle.dd_text.proofs.LineTexts.{renumbered, size_put}
use Rattle.dd_text.proofs.outline.Outline.begin.Goals as goal

pub returns : goal.returns
returns c =
    let s = c.args.symbol.now in
    let o = c.args.self.now in
    let cleared = c.clear.new.self in
    let more = codes ":" ++ decimal s.size ++ codes ":" ++ decimal (op s Zero 1) in
    let head = size_put s.size (op s Zero 1) cleared.head.items c.put_bytes.new.out.items c.put_number.new.out.items c.put_bytes-2.new.out.items c.put_number-2.new.out.items
    c.in_ok-put_bytes.ensures.bytes
    (c.in_ok-put_number.ensures ∙ ap (λ n. c.put_bytes.new.out.items ++ decimal n) c.size.ensures.size)
    c.in_ok-put_bytes-2.ensures.bytes
    (c.in_ok-put_number-2.ensures ∙ ap (λ ys. c.put_bytes-2.new.out.items ++ decimal (get_or ys 0 0)) c.images.ensures) in
    record {
      numbered = λ k has.
          subst (IsNumbered k more c.put_number-2.new.out.items) (sym c.clear.ensures.end)
          (renumbered k has.rest more o.head.items cleared.head.items c.put_number-2.new.out.items o.number_end has.numbered c.clear.ensures.head head);
      ones = c.in_ok-put_number-3.ensures
          ∙ ap (λ t. t ++ decimal (get_or c.images.result 1 0)) c.clear.ensures.ones
          ∙ ap (λ ys. decimal (get_or ys 1 0)) c.images.ensures;
      twos = c.in_ok-put_number-4.ensures
          ∙ ap (λ t. t ++ decimal (get_or c.images.result 2 0)) c.clear.ensures.twos
          ∙ ap (λ ys. decimal (get_or ys 2 0)) c.images.ensures;
      tiles = c.in_ok-push.ensures.items ∙ ap (λ t. t ++ 1 ∷ []) c.clear.ensures.tiles;
      vertices = c.in_ok-push-2.ensures.items ∙ ap (λ t. t ++ 1 ∷ []) c.clear.ensures.vertices;
    }
