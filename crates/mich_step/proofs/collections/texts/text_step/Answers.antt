use Rattle.std.proofs.Common.{sym, subst}
use Rattle.rules_code.specs.steps.Texts.{text_step}
use Rattle.mich_overload.specs.View.{text_row}
use Rattle.mich_stack.specs.Ends.{IsKept}
use Rattle.mich_stack.specs.Views.{values}
use Rattle.mich_step.proofs.collections.texts.text_step.Goals as goal

pub returns-in-ConcatStrings : goal.returns-in-ConcatStrings
returns-in-ConcatStrings c = λ big. subst (λ q. IsKept (text_step (text_row q) (values big c.args.stack.now)) (values big c.concat_strings.new.stack) c.concat_strings.result) (sym c.in-ConcatStrings.is) (c.concat_strings.ensures big)

pub returns-in-ConcatBytes : goal.returns-in-ConcatBytes
returns-in-ConcatBytes c = λ big. subst (λ q. IsKept (text_step (text_row q) (values big c.args.stack.now)) (values big c.concat_bytes.new.stack) c.concat_bytes.result) (sym c.in-ConcatBytes.is) (c.concat_bytes.ensures big)

pub returns-in-ConcatStringList : goal.returns-in-ConcatStringList
returns-in-ConcatStringList c = λ big. subst (λ q. IsKept (text_step (text_row q) (values big c.args.stack.now)) (values big c.concat_string_list.new.stack) c.concat_string_list.result) (sym c.in-ConcatStringList.is) (c.concat_string_list.ensures big)

pub returns-in-ConcatBytesList : goal.returns-in-ConcatBytesList
returns-in-ConcatBytesList c = λ big. subst (λ q. IsKept (text_step (text_row q) (values big c.args.stack.now)) (values big c.concat_bytes_list.new.stack) c.concat_bytes_list.result) (sym c.in-ConcatBytesList.is) (c.concat_bytes_list.ensures big)

pub returns-in-SliceString : goal.returns-in-SliceString
returns-in-SliceString c = λ big. subst (λ q. IsKept (text_step (text_row q) (values big c.args.stack.now)) (values big c.slice_string.new.stack) c.slice_string.result) (sym c.in-SliceString.is) (c.slice_string.ensures big)

pub returns-in-SliceBytes : goal.returns-in-SliceBytes
returns-in-SliceBytes c = λ big. subst (λ q. IsKept (text_step (text_row q) (values big c.args.stack.now)) (values big c.slice_bytes.new.stack) c.slice_bytes.result) (sym c.in-SliceBytes.is) (c.slice_bytes.ensures big)

pub returns-in-SizeString : goal.returns-in-SizeString
returns-in-SizeString c = λ big. subst (λ q. IsKept (text_step (text_row q) (values big c.args.stack.now)) (values big c.size_string.new.stack) c.size_string.result) (sym c.in-SizeString.is) (c.size_string.ensures big)

pub returns-in-SizeBytes : goal.returns-in-SizeBytes
returns-in-SizeBytes c = λ big. subst (λ q. IsKept (text_step (text_row q) (values big c.args.stack.now)) (values big c.size_bytes.new.stack) c.size_bytes.result) (sym c.in-SizeBytes.is) (c.size_bytes.ensures big)
