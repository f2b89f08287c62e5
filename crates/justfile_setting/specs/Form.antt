-- The forms of settings as the definitions name them.
use Rattle.justfile_model.specs.Grammars.Settings as forms
use Rattle.justfile_setting.specs.declared.form.SettingForm.{SettingForm}
use Rattle.justfile_setting.specs.declared.form.SettingForm.TheVariants as cases

abbrev pub form_of : SettingForm → forms.SettingForm
form_of cases.Expression = forms.ExpressionForm
form_of cases.Interpreter = forms.InterpreterForm
form_of cases.Plain = forms.PlainForm
form_of cases.Truth = forms.TruthForm
