mod Indented
