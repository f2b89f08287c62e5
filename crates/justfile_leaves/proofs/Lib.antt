mod EmptyTexts
